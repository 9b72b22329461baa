use Rattle.std.proofs.Common.{◌≡◌, ◌-◌, ◌∷◌, [], length, min, nat_le, subst, arith}
use Rattle.std.proofs.lemmas.List.Sums.{sum_by-append}
use Rattle.forms.specs.Symbol.{source_of}
use Rattle.forms.specs.Reading.{Reader, Gives}
use Rattle.protocol_syntax.specs.declared.limits.TheConstants.{MAX_SECTIONS, MAX_LETTERS}
use Rattle.protocol_syntax.specs.declared.protocol.SectionText.{SectionText}
use Rattle.protocol_syntax.specs.Grammar.{letters_of}
use Rattle.protocol_syntax.proofs.Letters.{section_same}
use Rattle.protocol_syntax.proofs.sections.MoreSectionsItems.read_next.Goals as goal

pub returns : goal.returns
returns c =
    let s = source_of c.args.source.now.text.now c.args.source.now.tokens.now in
    let first = c.args.self.now.first.now in
    let before = c.args.before.now in
    let sum = sum_by-append (λ (x : SectionText). length x.letters) (first ∷ []) before in
    let room : min c.min-used.result MAX_LETTERS ≡ min (letters_of (first ∷ before)) MAX_LETTERS =
    omega (arith, sum, c.min-used.ensures, c.saturating_add.ensures, c.len.ensures, c.used_letters.ensures) in
    subst (λ (r : Reader SectionText). Gives (r c.args.at.now) c.read.new.at c.read.result)
    (section_same s c.args.self.now.language (nat_le (MAX_SECTIONS - 1) (length before)) c.min-used.result (letters_of (first ∷ before)) room) c.read.ensures
