-- Lines that lead on, one after the other.
use Rattle.std.proofs.Common.{◌≡◌, ◌==◌, ℕ, true, false, not, ◌+◌, List, [], ◌∷◌, ◌++◌, length, flat_map, refl, sym, subst, ap, ◌∙◌, inr, eq-eqb}
use Rattle.std.specs.List.{list_all}
use Rattle.std.proofs.lemmas.List.{append_assoc, append-nil}
use Rattle.std.proofs.lemmas.Bool.{and_parts}
use Rattle.lines.specs.Bytes.{Lacks}
use Rattle.lines.specs.Grammar.{Says}
use Rattle.lines.specs.Document.{Document, Answer, ends, means, text_of, Leads, EndsBy, HasAnswer}

-- bytes that are known lack a byte where a test says so
pub Lacks-from_test : (byte : ℕ) (bytes : List ℕ) → list_all (λ b. not (b == byte)) bytes ≡ true → Lacks byte bytes
Lacks-from_test byte [] h = tt
Lacks-from_test byte (b ∷ bytes) h =
    let both = and_parts (not (b == byte)) (list_all (λ b. not (b == byte)) bytes) h in
    (λ e. absurd (let f : false ≡ true = sym (ap not (eq-eqb b byte e)) ∙ both.0 in cc), Lacks-from_test byte bytes both.1)

-- the text of lines, the last of which is this one
pub ended_text_is : (lines : List (List ℕ)) (last : List ℕ)
    → flat_map (λ line. line ++ 10 ∷ []) (lines ++ last ∷ []) ≡ text_of lines (last ++ 10 ∷ [])
ended_text_is [] last = append-nil (last ++ 10 ∷ [])
ended_text_is (line ∷ lines) last =
    append_assoc line (10 ∷ []) (flat_map (λ line. line ++ 10 ∷ []) (lines ++ last ∷ []))
    ∙ ap (λ rest. line ++ 10 ∷ rest) (ended_text_is lines last)

module _ {S V W : Type 0} (d : Document S V W) where
  pub Leads-append : (s t u : S) (xs ys : List (List ℕ)) → Leads d s xs t → Leads d t ys u → Leads d s (xs ++ ys) u
  Leads-append s t u [] ys h k = subst (λ z. Leads d z ys u) h k
  Leads-append s t u (x ∷ xs) ys h k = (h.0, h.1, h.2, h.3, h.4, Leads-append h.1 t u xs ys h.5 k)

  -- a text of lines that lead on and of a last one means what they lead to
  pub means_read : (lines : List (List ℕ)) (s : S) (last : List ℕ) (v : V) → Leads d d.start lines s → Lacks 10 last
      → Says (d.line s) last v → d.effect s v ≡ ends → HasAnswer d (text_of lines (last ++ 10 ∷ [])) (let answer : Answer S W = means s in answer)
  means_read lines s last v h lacks says is = let answer : Answer S W = means s in record {
    lines = lines;
    rest = last ++ 10 ∷ [];
    stage = s;
    leads_there = h;
    spelled = refl;
    stops = inr (last, [], record { joined = refl; first = lacks }, inr (v, says, subst (λ e. EndsBy e s (length lines + 1) [] answer) (sym is) refl));
  }
