-- That the comparison of pairs of numbers is equality.
use Rattle.std.proofs.Common.{◌≡◌, ℕ, true, eqb, ◌&&◌, ap, ◌∙◌, eqb-true}
use Rattle.std.proofs.lemmas.Bool.{and_parts}

pub same_number_pairs : (x y : ℕ × ℕ) → (eqb x.0 y.0 && eqb x.1 y.1) ≡ true → x ≡ y
same_number_pairs x y same =
    let parts = and_parts (eqb x.0 y.0) (eqb x.1 y.1) same in
    ap (λ (p : ℕ). (p, x.1)) (eqb-true x.0 y.0 parts.0) ∙ ap (λ (q : ℕ). (y.0, q)) (eqb-true x.1 y.1 parts.1)
