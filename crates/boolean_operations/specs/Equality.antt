-- Where `==` of options and of pairs answers true, the values are equal.
use Rattle.std.proofs.Common.{◌≡◌, ℕ, true, eqb, ◌&&◌, Option, Some, None, refl, ap, ◌∙◌, eqb-true}
use Rattle.std.proofs.lemmas.Bool.{false≢true, and_parts}
use Rattle.std.specs.Option.{option_eq}

pub same_options : (x y : Option ℕ) → option_eq eqb x y ≡ true → x ≡ y
same_options None None same = refl
same_options None (Some y) same = absurd (false≢true same)
same_options (Some x) None same = absurd (false≢true same)
same_options (Some x) (Some y) same = ap (λ (n : ℕ). Some n) (eqb-true x y same)

pub same_pairs : (x y : Option ℕ × Option ℕ) → (option_eq eqb x.0 y.0 && option_eq eqb x.1 y.1) ≡ true → x ≡ y
same_pairs x y same =
    let parts = and_parts (option_eq eqb x.0 y.0) (option_eq eqb x.1 y.1) same in
    ap (λ (p : Option ℕ). (p, x.1)) (same_options x.0 y.0 parts.0) ∙ ap (λ (q : Option ℕ). (y.0, q)) (same_options x.1 y.1 parts.1)

pub same_left_pairs : (x y : ℕ × Option ℕ) → (eqb x.0 y.0 && option_eq eqb x.1 y.1) ≡ true → x ≡ y
same_left_pairs x y same =
    let parts = and_parts (eqb x.0 y.0) (option_eq eqb x.1 y.1) same in
    ap (λ (p : ℕ). (p, x.1)) (eqb-true x.0 y.0 parts.0) ∙ ap (λ (q : Option ℕ). (y.0, q)) (same_options x.1 y.1 parts.1)
