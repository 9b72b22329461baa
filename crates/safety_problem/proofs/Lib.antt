mod Halves
mod LeastSteps
mod RuleNumbers
