-- What reading a grammar says of all tokens of a text: what they say, and their first fault.
use Rattle.std.proofs.Common.{◌≡◌, ℕ, ◌+◌, ◌≤◌, ◌<◌, true, List, length, Some, Ok, Err, refl, sym, ap, subst, ◌∙◌, inl, inr, ◌⊎◌, arith}
use Rattle.std.specs.Prelude.{◌↔◌}
use Rattle.std.proofs.lemmas.Bool.{cases_order}
use Rattle.forms.specs.declared.fault.What.{What}
use Rattle.forms.specs.declared.fault.SyntaxFault.{SyntaxFault}
use Rattle.forms.specs.declared.fault.SyntaxFault.TheVariants as Faults
use Rattle.forms.specs.Symbol.{Source, place_at}
use Rattle.forms.specs.Grammar.{Grammar, Says, Begins, Passes, IsWithin}
use Rattle.forms.specs.Shape.{IsUniform, shape, is_told, first, more}
use Rattle.forms.specs.Reading.{Answer, read}
use Rattle.forms.specs.FirstFault.{IsSoundBefore, IsUnexpected, IsTooMany}
use Rattle.forms.proofs.Meaning.{meaning}
use Rattle.forms.proofs.Laws.{Lawful, Begun, Done, Failed, Outcome}
use Rattle.forms.proofs.AllTokens.{answers_ok, answers_short, answers_failed, let_in}
use Rattle.forms.proofs.Tells.{law, more_lacks}

-- the fault of the tokens at an index
abbrev FaultAt : {A : Type 0} → Grammar A → Source → SyntaxFault → ℕ → Type 0
FaultAt x s (Faults.BadByte place) j = ⊥
FaultAt x s (Faults.Unexpected place) j = IsUnexpected x s j place
FaultAt x s (Faults.TooMany what place) j = IsTooMany x s j what place
FaultAt x s Faults.Memory j = ⊥

-- the first fault of the tokens
abbrev pub FaultOf : {A : Type 0} → Grammar A → Source → SyntaxFault → Type 0
FaultOf x s e = (j : ℕ) × FaultAt x s e j

-- where the tokens go wrong at an index, in the words of the reader
abbrev Breaks : {A : Type 0} → Grammar A → Source → SyntaxFault → ℕ → Type 0
Breaks x s e j = ((e ≡ Faults.Unexpected (place_at s j)) × (Begins x s 0 (j + 1) → ⊥))
    ⊎ ((w : What) × (e ≡ Faults.TooMany w (place_at s j)) × Begins x s 0 (j + 1) × Passes x s w 0 (j + 1)
    × ((v : What) → Passes x s v 0 (j + 1) → v ≡ w))

module _ (s : Source) {A : Type 0} (x : Grammar A) (f : List ℕ) (l : Lawful s (meaning x) f) where
  sound_before : (c : List ℕ) (j n : ℕ) → Begun s (meaning x) c 0 j n → IsSoundBefore x s j
  sound_before c j n b = λ k h. (l.shorten 0 k j b.begins (omega arith) h, λ w p. b.clean w k h p)

  within : (j : ℕ) → Begins x s 0 j → j ≤ length s.tokens
  within j b = elim (cases_order 0 j) [
    | inl e ↦ omega (arith, e)
    | inr o ↦ elim o [ inl h ↦ l.bound 0 j b h | inr h ↦ absurd (omega (arith, h)) ]
  ]

  -- what follows a sound beginning of length j cannot be a fault before it
  no_earlier : (e : SyntaxFault) (j k : ℕ) → IsSoundBefore x s j → j ≤ length s.tokens → FaultAt x s e k → k < j → ⊥
  no_earlier (Faults.BadByte place) j k b g u h = u
  no_earlier (Faults.Unexpected place) j k b g u h = elim u.here [
    | inl n ↦ n.1 (b (k + 1) (omega (arith, h))).0
    | inr n ↦ omega (arith, n.0, g, h)
  ]
  no_earlier (Faults.TooMany w place) j k b g u h = (b (k + 1) (omega (arith, h))).1 w u.passes
  no_earlier Faults.Memory j k b g u h = u

  before_of : (e : SyntaxFault) (k : ℕ) → FaultAt x s e k → IsSoundBefore x s k
  before_of (Faults.BadByte place) k u = absurd u
  before_of (Faults.Unexpected place) k u = u.before
  before_of (Faults.TooMany w place) k u = u.before
  before_of Faults.Memory k u = absurd u

  -- a break is a fault
  break_is : (e : SyntaxFault) (j : ℕ) → IsSoundBefore x s j → j ≤ length s.tokens → ((p : A) → j ≡ length s.tokens → Says x s 0 j p → ⊥)
      → Breaks x s e j → FaultAt x s e j
  break_is e j b g mute w = elim w [
    | inl n ↦ subst (λ (f : SyntaxFault). FaultAt x s f j) (sym n.0) (record {
      before = b;
      here = elim (cases_order j (length s.tokens)) [
        | inl h ↦ inr (h, λ p q. mute p h q)
        | inr o ↦ elim o [ inl h ↦ inl (h, n.1) | inr h ↦ absurd (omega (arith, h, g)) ]
      ];
      at = refl;
    })
    | inr n ↦ subst (λ (f : SyntaxFault). FaultAt x s f j) (sym n.1) (record {
      before = b;
      token = omega (arith, within (j + 1) n.2);
      begins = n.2;
      passes = n.3;
      at = refl;
    })
  ]

  -- the fault of a break is the only one
  break_only : (e d : SyntaxFault) (j k : ℕ) → IsSoundBefore x s j → j ≤ length s.tokens → Breaks x s e j → FaultAt x s d k → e ≡ d
  break_only e d j k b g w u = elim (cases_order k j) [
    | inl h ↦ here e d j b w (subst (λ (n : ℕ). FaultAt x s d n) h u)
    | inr o ↦ elim o [
      | inl h ↦ absurd (no_earlier d j k b g u h)
      | inr h ↦ absurd (elim w [
        | inl n ↦ n.1 (before_of d k u (j + 1) (omega (arith, h))).0
        | inr n ↦ (before_of d k u (j + 1) (omega (arith, h))).1 n.0 n.3
      ])
    ]
  ]
    where
      here : (e d : SyntaxFault) (j : ℕ) → IsSoundBefore x s j → Breaks x s e j → FaultAt x s d j → e ≡ d
      here e (Faults.BadByte place) j b w u = absurd u
      here e (Faults.Unexpected place) j b w u = elim w [
        | inl n ↦ n.0 ∙ ap Faults.Unexpected (sym u.at)
        | inr n ↦ elim u.here [
          | inl m ↦ absurd (m.1 n.2)
          | inr m ↦ absurd (omega (arith, m.0, within (j + 1) n.2))
        ]
      ]
      here e (Faults.TooMany v place) j b w u = elim w [
        | inl n ↦ absurd (n.1 u.begins)
        | inr n ↦ n.1 ∙ ap (λ (v : What). Faults.TooMany v (place_at s j)) (sym (n.4 v u.passes)) ∙ ap (Faults.TooMany v) (sym u.at)
      ]
      here e Faults.Memory j b w u = absurd u

-- all tokens of a text
module _ (s : Source) {A : Type 0} (x : Grammar A) (u : IsUniform x) (t : is_told (shape x) ≡ true) where
  answered : (o : Answer A) → read s x 0 ≡ o → Outcome s (meaning x) (more (shape x)) 0 o
  answered o e = subst (λ (a : Answer A). Outcome s (meaning x) (more (shape x)) 0 a) e ((law s x (shape x) u t).reads.reads 0)

  lawful : Lawful s (meaning x) (first (shape x))
  lawful = (law s x (shape x) u t).reads.lawful

  same_part : (a b : A) → Some a ≡ Some b → a ≡ b
  same_part a b e = cc

  pub ok_says : (a : A) → read s x 0 ≡ Ok (a, length s.tokens) → (b : A) → IsWithin x s b ↔ (a ≡ b)
  ok_says a e b =
      let two = answers_ok s A x (more (shape x)) (first (shape x)) lawful (more_lacks (shape x)) a (answered _ e) b in
      (λ w. same_part a b (two.0 w), λ g. two.1 (ap Some g))

  at_end : (e : SyntaxFault) (a : A) → Says x s 0 (length s.tokens) a → FaultAt x s e (length s.tokens) → ⊥
  at_end (Faults.BadByte place) a d w = w
  at_end (Faults.Unexpected place) a d w = elim w.here [ inl n ↦ omega (arith, n.0) | inr n ↦ n.1 a d ]
  at_end (Faults.TooMany what place) a d w = omega (arith, w.token)
  at_end Faults.Memory a d w = w

  pub ok_no_fault : (a : A) → read s x 0 ≡ Ok (a, length s.tokens) → (e : SyntaxFault) → FaultOf x s e → ⊥
  ok_no_fault a h e w =
      let d : Done s (meaning x) (more (shape x)) 0 a (length s.tokens) = answered _ h in
      elim (cases_order w.0 (length s.tokens)) [
        | inl g ↦ at_end e a d.says (subst (λ (n : ℕ). FaultAt x s e n) g w.1)
        | inr o ↦ elim o [
          | inl g ↦
              no_earlier s x (first (shape x)) lawful e (length s.tokens) w.0
              (sound_before s x (first (shape x)) lawful (more (shape x)) (length s.tokens) (length s.tokens) d.begun) (omega arith) w.1 g
          | inr g ↦ d.stops (before_of s x (first (shape x)) lawful e w.0 w.1 (length s.tokens + 1) (omega (arith, g))).0
        ]
      ]

  by_break : (e : SyntaxFault) (j n : ℕ) → Begun s (meaning x) (more (shape x)) 0 j n → ((a : A) → j ≡ length s.tokens → Says x s 0 j a → ⊥)
      → Breaks x s e j → (d : SyntaxFault) → FaultOf x s d ↔ (e ≡ d)
  by_break e j n b mute w d =
      let so = sound_before s x (first (shape x)) lawful (more (shape x)) j n b in
      let le = within s x (first (shape x)) lawful j b.begins in (
        λ v. break_only s x (first (shape x)) lawful e d j v.0 so le w v.1,
        λ g. subst (λ (f : SyntaxFault). FaultOf x s f) g (j, break_is s x (first (shape x)) lawful e j so le mute w),
      )

  pub short_fault : (a : A) (at : ℕ) → read s x 0 ≡ Ok (a, at) → (at ≡ length s.tokens → ⊥)
      → (d : SyntaxFault) → FaultOf x s d ↔ (Faults.Unexpected (place_at s at) ≡ d)
  short_fault a at e other =
      let d : Done s (meaning x) (more (shape x)) 0 a at = answered _ e in
      by_break (Faults.Unexpected (place_at s at)) at at d.begun (λ b h _. other h) (inl (refl, d.stops))

  pub short_says : (a : A) (at : ℕ) → read s x 0 ≡ Ok (a, at) → (at ≡ length s.tokens → ⊥) → (b : A) → IsWithin x s b → ⊥
  short_says a at e other = answers_short s A x (more (shape x)) (first (shape x)) lawful (more_lacks (shape x)) a at (answered _ e) other

  pub failed_fault : (e : SyntaxFault) → read s x 0 ≡ Err e → (d : SyntaxFault) → FaultOf x s d ↔ (e ≡ d)
  failed_fault e h =
      let o : (j : ℕ) × Failed s (meaning x) (more (shape x)) 0 e j = answered _ h in
      by_break e o.0 (o.0 + 1) o.1.begun
      (λ a g q.
      let_in s A x (more (shape x)) (first (shape x)) lawful (more_lacks (shape x)) o.0 (omega (arith, g)) (o.1.begun.shorter o.0 a (omega arith) q))
      o.1.wrong

  pub failed_says : (e : SyntaxFault) → read s x 0 ≡ Err e → (b : A) → IsWithin x s b → ⊥
  failed_says e h = answers_failed s A x (more (shape x)) (first (shape x)) lawful (more_lacks (shape x)) e (answered _ h)
