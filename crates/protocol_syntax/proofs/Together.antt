-- Productions of several parts: each is read as the nested pairs of its parts are, which the code reads.
use Rattle.std.proofs.Common.{◌≡◌, ℕ, List, [], Some, Ok, refl, sym, subst, ◌∙◌}
pub use Rattle.std.proofs.lemmas.Result.{err_from_is_err_and}
use Rattle.protocol_lexer.specs.declared.TokenKind.TheVariants.{BraceLeft, BraceRight, Colon, Semicolon, Arrow}
use Rattle.forms.specs.declared.fault.What.TheVariants as Limits
use Rattle.forms.specs.declared.fault.SyntaxFault.{SyntaxFault}
use Rattle.forms.specs.declared.name.Name.{Name}
use Rattle.forms.specs.declared.symbol.Keyword.{Keyword}
use Rattle.forms.specs.declared.symbol.Keyword.TheVariants as Words
use Rattle.forms.specs.declared.symbol.Symbol.TheVariants.{Reserved, Sign}
pub use Rattle.forms.specs.Symbol.{Source, source_of}
use Rattle.forms.specs.Concatenation.{behind, both, ended}
use Rattle.forms.specs.Grammar.{Grammar, name, gives, ◌>>=◌, optional, many, up_to}
use Rattle.forms.specs.Reading.{Fails, read}
use Rattle.forms.proofs.ForCallers.{IsReadAs, read_as, goes_on, fails_with}
pub use Rattle.forms.proofs.ForCallers.{says_made, fails_too, given_alike}
use Rattle.protocol_syntax.specs.declared.limits.TheConstants.{MAX_ROWS, MAX_RULES, MAX_GUARDS}
use Rattle.protocol_syntax.specs.declared.protocol.Many.TheVariants as Counts
use Rattle.protocol_syntax.specs.declared.protocol.Move.TheVariants as Moves
use Rattle.protocol_syntax.specs.declared.protocol.Protocol.{Protocol}
use Rattle.protocol_syntax.specs.declared.protocol.SectionText.{SectionText}
use Rattle.protocol_syntax.specs.declared.protocol.RowText.{RowText}
use Rattle.protocol_syntax.specs.declared.protocol.RuleText.{RuleText}
use Rattle.protocol_syntax.specs.Grammar.{kind, section, set, base, count, atom, pattern, part, row, quantifier, region, guard, entry, table}
use Rattle.protocol_syntax.specs.Grammar.{at_move, four_names, set_move, pushed, pop_move, step, rule, second_language, protocol}
use Rattle.protocol_syntax.specs.private.Parts.{all_sections, letters_behind}

pub atom_as : IsReadAs atom (both base (optional Counts.One count)) (λ v. record { base = v.0; many = v.1 })
unfolding atom
atom_as = read_as _ _ _ (λ s i. refl)

pub part_as : IsReadAs part (both name (behind (Sign Colon) (ended pattern (Sign Semicolon)))) (λ v. record { section = v.0; atoms = v.1 })
unfolding part
part_as = read_as _ _ _ (λ s i. refl)

pub section_as : (language used : ℕ)
    → IsReadAs (section language used) (both (both (kind language) name) (ended (behind (Sign BraceLeft) (letters_behind used)) (Sign BraceRight)))
    (λ v. record { kind = v.0.0; name = v.0.1; letters = v.1 })
unfolding section
section_as language used = read_as _ _ _ (λ s i. refl)

pub guard_as : IsReadAs guard (both (both (behind (Reserved Words.When) quantifier) region) (behind (Reserved Words.In) set))
    (λ v. record { all = v.0.0; region = v.0.1; letters = v.1 })
unfolding guard
guard_as = read_as _ _ _ (λ s i. refl)

pub entry_as : IsReadAs entry (ended (both name (behind (Sign Arrow) name)) (Sign Semicolon)) (λ v. v)
unfolding entry
entry_as = read_as _ _ _ (λ s i. refl)

pub at_as : IsReadAs at_move
    (both (both (both (behind (Reserved Words.At) name) (behind (Sign Arrow) name)) (up_to MAX_GUARDS Limits.Guards guard)) (optional [] table))
    (λ v. Moves.At v.0.0.0 v.0.0.1 v.0.1 v.1)
unfolding at_move
at_as = read_as _ _ _ (λ s i. refl)

pub four_as : (word : Keyword) → IsReadAs (four_names word) (both (behind (Reserved word) (both name name)) (behind (Sign Arrow) (both name name)))
    (λ v. (v.0.0, v.0.1, v.1.0, v.1.1))
unfolding four_names
four_as word = read_as _ _ _ (λ s i. refl)

pub set_move_as : IsReadAs set_move (both (behind (Reserved Words.Set) name) (behind (Sign Arrow) name)) (λ v. Moves.Set v.0 v.1)
unfolding set_move
set_move_as = read_as _ _ _ (λ s i. refl)

pub pop_as : IsReadAs pop_move (both (behind (Reserved Words.Pop) name) (optional [] pushed)) (λ v. Moves.Stack (Some v.0) v.1)
unfolding pop_move
pop_as = read_as _ _ _ (λ s i. refl)

pub rule_as : (language : ℕ)
    → IsReadAs (rule language) (both (behind (Reserved Words.Rule) name) (ended (behind (Sign BraceLeft) (many (step language))) (Sign BraceRight)))
    (λ v. record { name = v.0; moves = v.1 })
unfolding rule
rule_as language = read_as _ _ _ (λ s i. refl)

-- a protocol: its head, its sections, and the rows and rules behind them
abbrev head : Grammar (Name × ℕ)
head = both (behind (Reserved Words.Protocol) name) (optional 1 second_language)

abbrev tail : ℕ → Grammar ((List RowText × List RuleText) × List RowText)
tail language =
    both (both (up_to MAX_ROWS Limits.InitRows (row Words.Init)) (up_to MAX_RULES Limits.Rules (rule language)))
    (up_to MAX_ROWS Limits.BadRows (row Words.Bad))

abbrev made : Name × ℕ → List SectionText → (List RowText × List RuleText) × List RowText → Protocol
made h sections t = record { name = h.0; language = h.1; sections = sections; init = t.0.0; rules = t.0.1; bad = t.1 }

abbrev behind_sections : Name × ℕ → List SectionText → Grammar Protocol
behind_sections h sections = tail h.1 >>= λ t. gives (made h sections t)

abbrev behind_head : Name × ℕ → Grammar Protocol
behind_head h = all_sections h.1 >>= λ sections. behind_sections h sections

protocol_as : IsReadAs protocol (head >>= behind_head) (λ p. p)
unfolding protocol
protocol_as = read_as _ _ _ (λ s i. refl)

module _ (s : Source) (i : ℕ) where
  pub head-fails : (fault : SyntaxFault) → Fails fault (read s head i) → Fails fault (read s protocol i)
  head-fails fault fails = fails_too protocol_as s i fault (fails_with head behind_head s i fault fails)

  module _ (h : Name × ℕ) (j : ℕ) (head_read : read s head i ≡ Ok (h, j)) where
    pub sections-fail : (fault : SyntaxFault) → Fails fault (read s (all_sections h.1) j) → Fails fault (read s protocol i)
    sections-fail fault fails =
        fails_too protocol_as s i fault
        (subst (Fails fault) (sym (goes_on head behind_head s i j h head_read)) (fails_with (all_sections h.1) (behind_sections h) s j fault fails))

    module _ (sections : List SectionText) (k : ℕ) (sections_read : read s (all_sections h.1) j ≡ Ok (sections, k)) where
      gone_on : read s (head >>= behind_head) i ≡ read s (behind_sections h sections) k
      gone_on = goes_on head behind_head s i j h head_read ∙ goes_on (all_sections h.1) (behind_sections h) s j k sections sections_read

      pub tail-fails : (fault : SyntaxFault) → Fails fault (read s (tail h.1) k) → Fails fault (read s protocol i)
      tail-fails fault fails =
          fails_too protocol_as s i fault
          (subst (Fails fault) (sym gone_on) (fails_with (tail h.1) (λ t. gives (made h sections t)) s k fault fails))

      pub all_read : (t : (List RowText × List RuleText) × List RowText) (m : ℕ) → read s (tail h.1) k ≡ Ok (t, m)
          → read s protocol i ≡ Ok (made h sections t, m)
      all_read t m tail_read =
          says_made protocol_as s i m (made h sections t) (gone_on ∙ goes_on (tail h.1) (λ u. gives (made h sections u)) s k m t tail_read)
