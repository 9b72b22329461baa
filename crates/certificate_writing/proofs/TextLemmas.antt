-- The texts of automata and runs, piece by piece.
use Rattle.std.proofs.Common.{◌≡◌, ℕ, ◌<◌, ◌≤◌, Bool, true, false, List, [], ◌∷◌, ◌++◌, ◌+◌, cond, filter, length, map, flat_map, get_or, take, codes, refl, sym, ap, subst, ◌∙◌}
use Rattle.std.specs.List.{range_with_len}
use Rattle.std.proofs.lemmas.List.{append_assoc, append-nil, flat_map_more, take_all, take_more}
use Rattle.std.proofs.lemmas.List.Concat.{flat_map-append}
use Rattle.std.proofs.lemmas.List.Folds.{flat_map-map}
use Rattle.word_automata.specs.Path.{edges_of}
use Rattle.word_automata.specs.Automaton.{Automaton}
use Rattle.protocol_model.specs.declared.system.Run.{Run}
use Rattle.protocol_model.specs.System.{SystemData}
use Rattle.configuration_words.specs.Texts.{configuration_text}
use Rattle.certificate.specs.RunText.{run_text, start_line, step_line, steps_text}
use Rattle.certificate.specs.SafeText.{Line, Final, letter_line, letters_text, line_text, lines_text, states_line, text_under}
use Rattle.certificate_writing.specs.Writing.{automaton_text, edge_lines, final_states, lines_from}
use Rattle.certificate_writing.specs.private.WritingParts.{final_text, named_text_from, opening_text}
use Rattle.certificate_writing.proofs.Ranges.{filter_range_more, flat_map_nested}

-- loops that append what each item gives
module _ {X : Type 0} (text : X → List ℕ) (xs : List X) (i : ℕ) (old now : List ℕ) (before : now ≡ old ++ flat_map text (take i xs)) where
  pub appended_more : (d : X) (new : List ℕ) → i < length xs → new ≡ now ++ text (get_or xs i d) → new ≡ old ++ flat_map text (take (i + 1) xs)
  appended_more d new within added =
      let x = get_or xs i d in
      added
      ∙ ap (λ (t : List ℕ). t ++ text x) before
      ∙ flat_map_more text old (take i xs) x
      ∙ ap (λ (ys : List X). old ++ flat_map text ys) (sym (take_more xs i d within))

  pub appended_all : length xs ≤ i → now ≡ old ++ flat_map text xs
  appended_all end = subst (λ (ys : List X). now ≡ old ++ flat_map text ys) (take_all i xs end) before

-- each line of a text with a line feed
abbrev ended : List (List ℕ) → List ℕ
ended lines = flat_map (λ line. line ++ 10 ∷ []) lines

-- the text of mapped lines and of a last one
module _ {X : Type 0} (text : X → List ℕ) where
  ended-append : (xs : List X) (last : List (List ℕ)) → ended (map text xs ++ last) ≡ flat_map (λ x. text x ++ 10 ∷ []) xs ++ ended last
  ended-append xs last =
      flat_map-append (λ line. line ++ 10 ∷ []) (map text xs) last
      ∙ ap (λ front. front ++ ended last) (flat_map-map (λ line. line ++ 10 ∷ []) text xs)

-- the text of a run under a first line
pub run_text-is : (first : List ℕ) (s : SystemData) (run : Run)
    → (((first ++ 10 ∷ codes "start ") ++ (configuration_text s run.first ++ 10 ∷ [])) ++ steps_text s run.steps) ++ (codes "end" ++ 10 ∷ [])
    ≡ run_text first s run
run_text-is first s run =
    let end : List ℕ = codes "end" ++ 10 ∷ [] in
    let start : List ℕ = configuration_text s run.first ++ 10 ∷ [] in
    let steps = steps_text s run.steps in
    append_assoc ((first ++ 10 ∷ codes "start ") ++ start) steps end
    ∙ append_assoc (first ++ 10 ∷ codes "start ") start (steps ++ end)
    ∙ append_assoc first (10 ∷ codes "start ") (start ++ (steps ++ end))
    ∙ sym (append_assoc first (10 ∷ []) ((start_line s run.first ++ 10 ∷ []) ++ (steps ++ end)))
    ∙ ap (λ rest. (first ++ 10 ∷ []) ++ ((start_line s run.first ++ 10 ∷ []) ++ rest)) (sym (ended-append (step_line s) run.steps (codes "end" ∷ [])))

regrouped : (f l s p q n : List ℕ) → ((((f ++ l) ++ s) ++ p) ++ q) ++ n ≡ f ++ (l ++ (s ++ ((p ++ q) ++ n)))
regrouped f l s p q n = simp append_assoc

-- the text of an automaton under a first line
pub text_under-is : (first letters : List ℕ) (s : SystemData) (count : ℕ) (states : List ℕ) (later : List Line)
    → (((((first ++ 10 ∷ []) ++ letters_text s letters) ++ (states_line count ++ 10 ∷ [])) ++ flat_map final_text states) ++ lines_text s later)
    ++ (codes "end" ++ 10 ∷ [])
    ≡ text_under first letters s count (map Final states ++ later)
text_under-is first letters s count states later =
    let named = letters_text s letters in
    let counted : List ℕ = states_line count ++ 10 ∷ [] in
    let end : List ℕ = codes "end" ++ 10 ∷ [] in
    let lines : List Line = map Final states ++ later in
    let both : lines_text s lines ≡ flat_map final_text states ++ lines_text s later =
    flat_map-append (λ x. line_text s x ++ 10 ∷ []) (map Final states) later
    ∙ ap (λ text. text ++ lines_text s later) (flat_map-map (λ x. line_text s x ++ 10 ∷ []) Final states) in
    regrouped (first ++ 10 ∷ []) named counted (flat_map final_text states) (lines_text s later) end
    ∙ ap (λ text. (first ++ 10 ∷ []) ++ text)
    (ap (λ text. named ++ (counted ++ text)) (ap (λ text. text ++ end) (sym both) ∙ sym (ended-append (line_text s) lines (codes "end" ∷ [])))
    ∙ sym (ended-append (letter_line s) letters (states_line count ∷ (map (line_text s) lines ++ codes "end" ∷ []))))

pub automaton_text-is : (first : List ℕ) (s : SystemData) (m : Automaton)
    → (opening_text first [] s m ++ flat_map (named_text_from s m) (range_with_len 0 (length m.states))) ++ (codes "end" ++ 10 ∷ [])
    ≡ automaton_text first s m
automaton_text-is first s m =
    let edges = flat_map_nested (λ x. line_text s x ++ 10 ∷ []) (λ p. lines_from p (edges_of m.states p)) (range_with_len 0 (length m.states)) in
    ap (λ text. (opening_text first [] s m ++ text) ++ (codes "end" ++ 10 ∷ [])) (sym edges)
    ∙ text_under-is first [] s (length m.states) (final_states m) (edge_lines m)

-- one more state's line is written, where it accepts
pub finals_more : (text : List ℕ) (p : ℕ → Bool) (i : ℕ)
    → (text ++ flat_map final_text (filter p (range_with_len 0 i))) ++ cond (p i) (final_text i) []
    ≡ text ++ flat_map final_text (filter p (range_with_len 0 (i + 1)))
finals_more text p i =
    let before = filter p (range_with_len 0 i) in
    append_assoc text (flat_map final_text before) (cond (p i) (final_text i) [])
    ∙ ap (λ all. text ++ all)
    (ap (λ last. flat_map final_text before ++ last) (one (p i))
    ∙ sym (flat_map-append final_text before (cond (p i) (i ∷ []) []))
    ∙ ap (flat_map final_text) (sym (filter_range_more p i)))
  where
    one : (b : Bool) → cond b (final_text i) [] ≡ flat_map final_text (cond b (i ∷ []) [])
    one true = sym (append-nil (final_text i))
    one false = refl
