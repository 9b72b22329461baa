mod RunLemmas
mod MachineLemmas
mod MoveLemmas
mod CutLemmas
