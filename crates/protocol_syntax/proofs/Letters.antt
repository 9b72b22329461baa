-- How many letters the sections have so far, as far as the limit cares.
use Rattle.std.proofs.Common.{◌≡◌, ℕ, ◌-◌, Bool, true, false, min, leb, refl, arith}
use Rattle.std.proofs.lemmas.Bool.{leb-true, leb-false}
use Rattle.forms.specs.declared.fault.What.TheVariants as Limits
use Rattle.forms.specs.Symbol.{Source}
use Rattle.forms.specs.Grammar.{item}
use Rattle.forms.specs.Reading.{read}
use Rattle.protocol_syntax.specs.declared.limits.TheConstants.{MAX_LETTERS}
use Rattle.protocol_syntax.specs.Grammar.{section}

same_test : (u v : ℕ) (b d : Bool) → min u MAX_LETTERS ≡ min v MAX_LETTERS → leb MAX_LETTERS u ≡ b → leb MAX_LETTERS v ≡ d → b ≡ d
same_test u v true true e h g = refl
same_test u v false false e h g = refl
same_test u v true false e h g = absurd (omega (arith, e, leb-true MAX_LETTERS u h, leb-false MAX_LETTERS v g))
same_test u v false true e h g = absurd (omega (arith, e, leb-false MAX_LETTERS u h, leb-true MAX_LETTERS v g))

pub section_same : (s : Source) (language : ℕ) (full : Bool) (u v : ℕ) → min u MAX_LETTERS ≡ min v MAX_LETTERS
    → read s (item full Limits.Sections (section language u)) ≡ read s (item full Limits.Sections (section language v))
unfolding section
section_same s language full u v e =
    let room : leb MAX_LETTERS u ≡ leb MAX_LETTERS v = same_test u v (leb MAX_LETTERS u) (leb MAX_LETTERS v) e refl refl in
    let left : MAX_LETTERS - 1 - u ≡ MAX_LETTERS - 1 - v = omega (arith, e) in
    rw (room, left) refl
