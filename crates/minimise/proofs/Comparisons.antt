-- What comparing flags and lists of edges tells.
use Rattle.std.proofs.Common.{◌≡◌, ℕ, Bool, true, false, not, List, sym, ◌∙◌}
use Rattle.std.proofs.lemmas.Bool.{true≢false, not-true, not-false}
use Rattle.std.specs.Bool.{beq}
use Rattle.std.specs.Cmp.Lexicographic.{pointwise, pointwise_decides}
use Rattle.minimise.specs.Signatures.{same_edge}
use Rattle.minimise.specs.SignatureLaws.{beq-decides, same_edge-decides}

pub other_flag : (x y : Bool) → not (beq x y) ≡ true → x ≡ y → ⊥
other_flag x y h e = true≢false (sym ((beq-decides x y).1 e) ∙ not-true (beq x y) h)

pub same_flag : (x y : Bool) → not (beq x y) ≡ false → x ≡ y
same_flag x y h = (beq-decides x y).0 (not-false (beq x y) h)

pub other_edges : (xs ys : List (ℕ × ℕ)) → true ≡ not (pointwise same_edge xs ys) → xs ≡ ys → ⊥
other_edges xs ys h e = true≢false (sym ((pointwise_decides same_edge-decides xs ys).1 e) ∙ not-true (pointwise same_edge xs ys) (sym h))

pub same_edges_test : (xs ys : List (ℕ × ℕ)) → false ≡ not (pointwise same_edge xs ys) → xs ≡ ys
same_edges_test xs ys h = (pointwise_decides same_edge-decides xs ys).0 (not-false (pointwise same_edge xs ys) (sym h))
