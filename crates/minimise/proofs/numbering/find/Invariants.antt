use Rattle.std.proofs.Common.{◌≡◌, ◌≤◌, ◌%◌, ℕ, suc, length, slice_index}
use Rattle.minimise.specs.private.Numbering.{IsFirst, bucket_of}
use Rattle.minimise.proofs.numbering.find.Given as goal

abbrev pub invariant-firsts : goal.invariant-firsts
invariant-firsts l = record {
  in_bucket : (r : ℕ) → l.number ≡ suc r → IsFirst l.least r × (bucket_of l.classes (length l.heads) r ≡ l.class % length l.heads);
  beyond : (r : ℕ) → l.number ≤ r → IsFirst l.least r → slice_index l.classes r ≡ l.class → ⊥;
}

abbrev pub decreases-firsts : goal.decreases-firsts
decreases-firsts l = l.number
