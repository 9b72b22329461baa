mod RuleLemmas
mod SectionLemmas
mod WordLemmas
