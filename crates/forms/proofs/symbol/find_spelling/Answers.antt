use Rattle.std.proofs.Common.{rules, tests, ◌≡◌, ℕ, List, [], ◌∷◌, Bool, true, false, cond, Option, Some, map, nat_eq, refl, Bor}
use Rattle.std.proofs.lemmas.Iterator.{YieldsList-from_slice}
use Rattle.std.proofs.lemmas.Iterator.Search.{find_from_yields_List}
use Rattle.std.specs.Cmp.Lexicographic.{pointwise}
use Rattle.std.specs.List.{find}
use Rattle.std.specs.Option.{option_map}
use Rattle.forms.specs.declared.symbol.Keyword.{Keyword}
use Rattle.forms.specs.Symbol.{word_of}
use Rattle.forms.proofs.symbol.find_spelling.Goals as goal

-- what is found among words that are referred to is found among the words themselves
found_through : (words : List (Keyword × Bor (List ℕ))) (bytes : List ℕ)
    → option_map (λ w. w.0) (find (λ w. pointwise nat_eq w.1.now bytes) words) ≡ word_of (map (λ w. (w.0, w.1.now)) words) bytes
found_through [] bytes = refl
found_through (word ∷ words) bytes = here _ _ (pointwise nat_eq word.1.now bytes) (found_through words bytes)
  where
    here : (x : Option (Keyword × Bor (List ℕ))) (y : Option (Keyword × List ℕ)) (b : Bool) → option_map (λ w. w.0) x ≡ option_map (λ w. w.0) y
        → option_map (λ w. w.0) (cond b (Some word) x) ≡ option_map (λ w. w.0) (cond b (Some (word.0, word.1.now)) y)
    here x y true later = refl
    here x y false later = later

pub returns : goal.returns
returns c =
    let found : option_map (λ w. w.now) c.find.result ≡ find (λ w. pointwise nat_eq w.1.now c.args.bytes.now) c.args.words.now =
    find_from_yields_List (λ w. pointwise nat_eq w.1.now c.args.bytes.now) _ _ c.find.result c.find.ensures.ran (YieldsList-from_slice c.args.words.now (cc)) (λ x b q k. search (rules, tests)) in
    grind (rules, found, found_through c.args.words.now c.args.bytes.now)
