-- The law of all texts: a text has one answer.
use Rattle.std.proofs.Common.{◌≡◌, ℕ, suc, arith, ◌+◌, List, [], ◌∷◌, ◌++◌, length, sym, subst, ap, ◌∙◌, inl, inr}
use Rattle.sequence.proofs.ForCallers.{cut_unique}
use Rattle.lines.specs.Bytes.{Lacks}
use Rattle.lines.specs.Grammar.{Says}
use Rattle.lines.specs.Document.{Document, Effect, leads, ends, wrong, Answer, text_of, Leads, EndsBy, EndsAt, Stops, HasAnswer}
use Rattle.lines.proofs.FieldLists.{cut_one, cut_not}
use Rattle.lines.proofs.Laws.{says_one}

suc_in : (k n : ℕ) → suc k + n ≡ k + (n + 1)
suc_in k n = omega arith

module _ {S V W : Type 0} (d : Document S V W) where
  by_one : (e : Effect S W) (s : S) (n : ℕ) (after : List ℕ) (a b : Answer S W) → EndsBy e s n after a → EndsBy e s n after b → a ≡ b
  by_one (leads t) s n after a b h k = absurd h
  by_one ends s n [] a b h k = h ∙ sym k
  by_one ends s n (byte ∷ after) a b h k = h ∙ sym k
  by_one (wrong w) s n after a b h k = h ∙ sym k

  at_one : (s : S) (n : ℕ) (line after : List ℕ) (a b : Answer S W) → EndsAt d s n line after a → EndsAt d s n line after b → a ≡ b
  at_one s n line after a b (inl h) (inl k) = h.1 ∙ sym k.1
  at_one s n line after a b (inl h) (inr k) = absurd (h.0 k.0 k.1)
  at_one s n line after a b (inr h) (inl k) = absurd (k.0 h.0 h.1)
  at_one s n line after a b (inr h) (inr k) =
      by_one (d.effect s k.0) s n after a b
      (subst (λ v. EndsBy (d.effect s v) s n after a) (says_one (d.line s) line h.0 k.0 h.1 k.1) h.2) k.2

  stops_one : (s : S) (n : ℕ) (rest : List ℕ) (a b : Answer S W) → Stops d s n rest a → Stops d s n rest b → a ≡ b
  stops_one s n rest a b (inl h) (inl k) = h.1 ∙ sym k.1
  stops_one s n rest a b (inl h) (inr k) = cut_not 10 rest k.0 k.1 k.2 h.0
  stops_one s n rest a b (inr h) (inl k) = cut_not 10 rest h.0 h.1 h.2 k.0
  stops_one s n rest a b (inr h) (inr k) =
      let same = cut_one 10 rest h.0 k.0 h.1 k.1 h.2 k.2 in
      at_one s n k.0 k.1 a b
      (subst (λ after. EndsAt d s n k.0 after a) same.1 (subst (λ line. EndsAt d s n line h.1 a) same.0 h.3)) k.3

  by_leads : (e : Effect S W) (s u : S) (n : ℕ) (after : List ℕ) (a : Answer S W) → e ≡ leads u → EndsBy e s n after a → ⊥
  by_leads (leads t) s u n after a e h = h
  by_leads ends s u n after a e h = cc
  by_leads (wrong w) s u n after a e h = cc

  -- no reading stops where a line leads on
  not_stops : (s u : S) (n : ℕ) (rest line after : List ℕ) (v : V) (a : Answer S W) → rest ≡ line ++ 10 ∷ after → Lacks 10 line
      → Says (d.line s) line v → d.effect s v ≡ leads u → Stops d s n rest a → ⊥
  not_stops s u n rest line after v a joined lacks says on (inl h) = cut_not 10 rest line after (record { joined = joined; first = lacks }) h.0
  not_stops s u n rest line after v a joined lacks says on (inr h) =
      let same = cut_one 10 rest line h.0 after h.1 (record { joined = joined; first = lacks }) h.2 in
      go h.0 h.1 (subst (λ l. Says (d.line s) l v) same.0 says) h.3
    where
      go : (l k : List ℕ) → Says (d.line s) l v → EndsAt d s n l k a → ⊥
      go l k says (inl none) = none.0 v says
      go l k says (inr other) =
          by_leads (d.effect s other.0) s u n k a (ap (d.effect s) (says_one (d.line s) l other.0 v other.1 says) ∙ on) other.2

  one_stage : (t u : S) → (let e : Effect S W = leads t in e) ≡ leads u → t ≡ u
  one_stage t u e = cc

  aligned : (n : ℕ) (s t u : S) (xs ys : List (List ℕ)) (r q : List ℕ) (a b : Answer S W) → Leads d s xs t → Leads d s ys u
      → Stops d t (length xs + n) r a → Stops d u (length ys + n) q b → text_of xs r ≡ text_of ys q → a ≡ b
  aligned n s t u [] [] r q a b h k stop stop' e =
      stops_one s (0 + n) r a b (subst (λ z. Stops d z (0 + n) r a) h stop)
      (subst (λ z. Stops d s (0 + n) z b) (sym e) (subst (λ z. Stops d z (0 + n) q b) k stop'))
  aligned n s t u [] (y ∷ ys) r q a b h k stop stop' e =
      absurd (not_stops s k.1 (0 + n) r y (text_of ys q) k.0 a e k.2 k.3 k.4 (subst (λ z. Stops d z (0 + n) r a) h stop))
  aligned n s t u (x ∷ xs) [] r q a b h k stop stop' e =
      absurd (not_stops s h.1 (0 + n) q x (text_of xs r) h.0 b (sym e) h.2 h.3 h.4 (subst (λ z. Stops d z (0 + n) q b) k stop'))
  aligned n s t u (x ∷ xs) (y ∷ ys) r q a b h k stop stop' e =
      let parts = cut_unique 10 x y (text_of xs r) (text_of ys q) h.2 k.2 e in
      let same : h.0 ≡ k.0 = says_one (d.line s) y h.0 k.0 (subst (λ l. Says (d.line s) l h.0) parts.0 h.3) k.3 in
      let stage : h.1 ≡ k.1 = one_stage h.1 k.1 (sym h.4 ∙ ap (d.effect s) same ∙ k.4) in
      aligned (n + 1) k.1 t u xs ys r q a b (subst (λ z. Leads d z xs t) stage h.5) k.5
      (subst (λ m. Stops d t m r a) (suc_in (length xs) n) stop) (subst (λ m. Stops d u m q b) (suc_in (length ys) n) stop') parts.1

  pub answer_one : (text : List ℕ) (a b : Answer S W) → HasAnswer d text a → HasAnswer d text b → a ≡ b
  answer_one text a b h k =
      aligned 1 d.start h.stage k.stage h.lines k.lines h.rest k.rest a b h.leads_there k.leads_there h.stops k.stops
      (sym h.spelled ∙ k.spelled)
