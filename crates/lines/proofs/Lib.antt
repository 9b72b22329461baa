pub mod ForCallers
mod EachLaws
mod FieldLists
mod Leading
mod Laws
mod TextLaws
mod TextLoop
mod NumberLemmas
mod FromParts
