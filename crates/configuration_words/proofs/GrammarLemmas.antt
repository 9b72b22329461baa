-- In the texts of configurations the next symbol tells how to go on, nothing has a limit, and what they say fits.
use Rattle.std.proofs.Common.{◌≡◌, ◌<◌, ◌&&◌, ◌||◌, ◌==◌, ◌+◌, ℕ, Bool, true, false, List, [], ◌∷◌, ◌++◌, length, refl, sym, ap, subst, ◌∙◌, inl, inr, nat_lt}
use Rattle.std.specs.Prelude.{◌↔◌, ◌≢◌}
use Rattle.std.specs.List.{list_all}
use Rattle.std.proofs.lemmas.Bool.{lt-ltb, and_parts, and_from}
use Rattle.protocol_lexer.specs.declared.TokenKind.TheVariants.{Colon, Semicolon}
use Rattle.forms.specs.declared.fault.What.{What}
use Rattle.forms.specs.declared.fault.SyntaxFault.{SyntaxFault}
use Rattle.forms.specs.declared.fault.SyntaxFault.TheVariants as Faults
use Rattle.forms.specs.declared.symbol.Symbol.TheVariants.{Sign}
use Rattle.forms.specs.Symbol.{Source, source_of}
use Rattle.forms.specs.Grammar.{Grammar, sign, name, one_of, gives, ◌>>=◌, ◌or◌, optional, many_by, item, only, each, Passes}
use Rattle.forms.specs.FirstFault.{IsMeaning, IsFault}
use Rattle.forms.specs.Shape.{Shape, one, word, listed, none, after, either, perhaps, often, limited, allowed, HasShape, IsUniform, shape, grows, first, more, are_apart, is_told, code}
use Rattle.forms.proofs.ForCallers.{each_uniform, each_told, each_apart, MayMean, AllAfter, within_may_mean}
use Rattle.protocol_model.specs.declared.system.Section.{Section}
use Rattle.protocol_model.specs.declared.system.Configuration.{Configuration}
use Rattle.protocol_model.specs.System.{letter_count}
use Rattle.protocol_model.specs.Patterns.{has_any_length, lists_fit}
use Rattle.configuration_words.specs.ConfigurationText.{letters, one_letter, list_of, part, later_part, parts, configuration, syntax_fault, config_fault}
use Rattle.configuration_words.specs.declared.fault.ConfigFault.{ConfigFault}
use Rattle.configuration_words.specs.declared.fault.ConfigFault.TheVariants.{BadByte, Unexpected, Memory}

list_is_uniform : (any : Bool) (section : Section) → IsUniform (list_of any section)
unfolding list_of letters one_letter
list_is_uniform true section = ((refl, λ _. tt), (tt, λ _. (λ _. tt, λ _. tt)))
list_is_uniform false section = (tt, λ _. tt)

later_is_uniform : (section : Section) → IsUniform (later_part section)
unfolding later_part part
later_is_uniform section = (refl, λ _. (tt, λ _. (refl, λ _. list_is_uniform (has_any_length section.kind) section)))

parts_are_uniform : (sections : List Section) → IsUniform (parts sections)
unfolding parts part
parts_are_uniform [] = tt
parts_are_uniform (section ∷ sections) =
    ((tt, λ _. (refl, λ _. list_is_uniform (has_any_length section.kind) section)), λ _. (each_uniform later_part later_is_uniform sections, λ _. tt))

pub configuration_is_uniform : (sections : List Section) → IsUniform (configuration sections)
unfolding configuration
configuration_is_uniform sections = (parts_are_uniform sections, λ _. tt)

part_shape : Bool → Section → Shape
part_shape any section = after listed (after (one (Sign Colon)) (shape (list_of any section)))

part_is_told : (any : Bool) (section : Section) → is_told (part_shape any section) ≡ true
unfolding part_shape list_of letters one_letter code
part_is_told true section = refl
part_is_told false section = refl

-- a semicolon does not go on a part
part_ends : (any : Bool) (section : Section) → are_apart (code (Sign Semicolon) ∷ []) (more (part_shape any section)) ≡ true
unfolding part_shape list_of letters one_letter code
part_ends true section = refl
part_ends false section = refl

later_is_told : (section : Section) → is_told (shape (later_part section)) ≡ true
unfolding later_part part part_shape
later_is_told section = rw (part_is_told (has_any_length section.kind) section) refl

part_before : (any : Bool) (section other : Section) → are_apart (first (shape (later_part other))) (more (part_shape any section)) ≡ true
unfolding later_part
part_before any section other = part_ends any section

later_ends : (section other : Section) → are_apart (first (shape (later_part other))) (more (shape (later_part section))) ≡ true
unfolding later_part part part_shape
later_ends section other = part_before (has_any_length section.kind) section other

later_grows : (section : Section) → grows (shape (later_part section)) ≡ true
unfolding later_part
later_grows section = refl

parts_are_told : (sections : List Section) → is_told (shape (parts sections)) ≡ true
unfolding parts part part_shape
parts_are_told [] = refl
parts_are_told (section ∷ sections) =
    let any = has_any_length section.kind in
    and_from _ _ (part_is_told any section)
    (and_from _ _ (and_from _ _ (each_told later_part later_grows later_is_told later_ends sections) refl)
    (each_apart later_part later_grows (more (part_shape any section)) (part_before any section) sections))

pub configuration_is_told : (sections : List Section) → is_told (shape (configuration sections)) ≡ true
unfolding configuration
configuration_is_told sections = rw (parts_are_told sections) refl

-- whether a grammar of the shape has no limit
abbrev is_free : Shape → Bool
is_free (one x) = true
is_free word = false
is_free listed = true
is_free none = true
is_free (after p q) = is_free p && is_free q
is_free (either p q) = is_free p && is_free q
is_free (perhaps p) = is_free p
is_free (often p) = is_free p
is_free (limited p) = false
is_free (allowed p) = is_free p

free_passes : (s : Source) {A : Type 0} (g : Grammar A) (p : Shape) → HasShape g p → is_free p ≡ true → (w : What) (i j : ℕ) → Passes g s w i j → ⊥
free_passes s (sign x) (one y) h f w i j passes = passes
free_passes s name word h f w i j passes = cc
free_passes s (one_of names) listed h f w i j passes = passes
free_passes s (gives a) none h f w i j passes = passes
free_passes s (x >>= y) (after p q) h f w i j (inl passes) = free_passes s x p h.0 (and_parts (is_free p) (is_free q) f).0 w i j passes
free_passes s (x >>= y) (after p q) h f w i j (inr (k, a, says, passes)) =
    free_passes s (y a) q (h.1 a) (and_parts (is_free p) (is_free q) f).1 w k j passes
free_passes s (x or y) (either p q) h f w i j (inl passes) = free_passes s x p h.0 (and_parts (is_free p) (is_free q) f).0 w i j passes
free_passes s (x or y) (either p q) h f w i j (inr passes) = free_passes s y q h.1 (and_parts (is_free p) (is_free q) f).1 w i j passes
free_passes s (optional a x) (perhaps p) h f w i j passes = free_passes s x p h f w i j passes
free_passes s (many_by x) (often p) h f w i j (k, values, says, passes) = free_passes s (x values) p (h values) f w k j passes
free_passes s (item full what x) (limited p) h f w i j passes = cc
free_passes s (only b x) (allowed p) h f w i j (may, passes) = free_passes s x p h f w i j passes
free_passes s _ _ h f w i j passes = absurd h

list_is_free : (any : Bool) (section : Section) → is_free (shape (list_of any section)) ≡ true
unfolding list_of letters one_letter
list_is_free true section = refl
list_is_free false section = refl

each_is_free : (sections : List Section) → is_free (shape (each later_part sections)) ≡ true
unfolding later_part part
each_is_free [] = refl
each_is_free (section ∷ sections) = rw (list_is_free (has_any_length section.kind) section, each_is_free sections) refl

configuration_is_free : (sections : List Section) → is_free (shape (configuration sections)) ≡ true
unfolding configuration parts part
configuration_is_free [] = refl
configuration_is_free (section ∷ sections) = rw (list_is_free (has_any_length section.kind) section, each_is_free sections) refl

-- nothing is past a limit
pub no_limit : (sections : List Section) (s : Source) (w : What) (j : ℕ) → Passes (configuration sections) s w 0 j → ⊥
no_limit sections s w j passes =
    free_passes s (configuration sections) (shape (configuration sections)) (configuration_is_uniform sections) (configuration_is_free sections) w 0 j passes

below : (n : ℕ) (letters before : List ℕ) → AllAfter (λ _ a. a < n) before letters → list_all (λ a. nat_lt a n) letters ≡ true
below n [] before all = refl
below n (a ∷ letters) before all = and_from _ _ (lt-ltb a n all.0) (below n letters (before ++ a ∷ []) all.1)

list_said : (any : Bool) (section : Section) (list : List ℕ) → MayMean (list_of any section) list
    → (list_all (λ a. nat_lt a (letter_count section)) list && (any || (length list == 1))) ≡ true
unfolding list_of letters one_letter
list_said true section list (inl (u, tu, e)) = rw e refl
list_said true section list (inr (first, h, (rest, all, e))) =
    rw e (and_from _ _ (and_from _ _ (lt-ltb first (letter_count section) h) (below (letter_count section) rest [] all)) refl)
list_said false section list (letter, h, e) = rw e (and_from _ _ (and_from _ _ (lt-ltb letter (letter_count section) h) refl) refl)

each_said : (sections : List Section) (lists : List (List ℕ)) → MayMean (each later_part sections) lists → lists_fit sections lists ≡ true
unfolding later_part part
each_said [] lists e = rw e refl
each_said (section ∷ sections) lists (list, (u, tu, (n, hn, (v, tv, h))), (others, rest, e)) =
    rw e (and_from _ _ (list_said (has_any_length section.kind) section list h) (each_said sections others rest))

lists_said : (sections : List Section) (lists : List (List ℕ)) → MayMean (parts sections) lists → lists_fit sections lists ≡ true
unfolding parts part
lists_said [] lists e = rw e refl
lists_said (section ∷ sections) lists (list, (n, hn, (v, tv, h)), (others, rest, e)) =
    rw e (and_from _ _ (list_said (has_any_length section.kind) section list h) (each_said sections others rest))

-- the configuration that a text means fits
pub meaning_fits : (sections : List Section) (text : List ℕ) (c : Configuration) → IsMeaning (configuration sections) text c
    → lists_fit sections c.lists ≡ true
unfolding configuration
meaning_fits sections text c (tokens, are, within) = fits_by (within_may_mean text tokens are (configuration sections) (configuration_is_uniform sections) (configuration_is_told sections) c within)
  where
    fits_by : MayMean (configuration sections) c → lists_fit sections c.lists ≡ true
    fits_by (lists, h, e) = subst (λ (d : Configuration). lists_fit sections d.lists ≡ true) (sym e) (lists_said sections lists h)

back : (fault : ConfigFault) → config_fault (syntax_fault fault) ≡ fault
back (BadByte place) = refl
back (Unexpected place) = refl
back Memory = refl

-- faults are the same where those of the grammar are
pub same_fault : (fault other : ConfigFault) → syntax_fault fault ≡ syntax_fault other → fault ≡ other
same_fault fault other e = sym (back fault) ∙ ap config_fault e ∙ back other

-- what a fault of the grammar says of a text that is not read
module _ (sections : List Section) (text : List ℕ) where
  abbrev IsOnlyFault : SyntaxFault → Type 0
  IsOnlyFault fault = (other : SyntaxFault) → IsFault (configuration sections) text other ↔ (fault ≡ other)

  only_fault : (fault : SyntaxFault) → syntax_fault (config_fault fault) ≡ fault → IsOnlyFault fault
      → (other : ConfigFault) → IsFault (configuration sections) text (syntax_fault other) ↔ (config_fault fault ≡ other)
  only_fault fault e alone other = (
    λ w. ap config_fault ((alone (syntax_fault other)).0 w) ∙ back other,
    λ g. (alone (syntax_fault other)).1 (sym e ∙ ap syntax_fault g),
  )

  pub fault_is : (fault : SyntaxFault) → (fault ≢ Faults.Memory → IsOnlyFault fault) → config_fault fault ≢ Memory
      → (other : ConfigFault) → IsFault (configuration sections) text (syntax_fault other) ↔ (config_fault fault ≡ other)
  fault_is (Faults.BadByte place) alone some = only_fault (Faults.BadByte place) refl (alone (λ e. cc))
  fault_is (Faults.Unexpected place) alone some = only_fault (Faults.Unexpected place) refl (alone (λ e. cc))
  fault_is (Faults.TooMany what place) alone some =
      let past = (alone (λ e. cc) (Faults.TooMany what place)).1 refl in
      absurd (no_limit sections (source_of text past.0) what (past.2.0 + 1) past.2.1.passes)
  fault_is Faults.Memory alone some = absurd (some refl)

  pub means_nothing : (fault : SyntaxFault) → (fault ≢ Faults.Memory → (c : Configuration) → IsMeaning (configuration sections) text c → ⊥)
      → config_fault fault ≢ Memory → (c : Configuration) → IsMeaning (configuration sections) text c → ⊥
  means_nothing (Faults.BadByte place) nothing some = nothing (λ e. cc)
  means_nothing (Faults.Unexpected place) nothing some = nothing (λ e. cc)
  means_nothing (Faults.TooMany what place) nothing some = nothing (λ e. cc)
  means_nothing Faults.Memory nothing some = absurd (some refl)
