-- Choices, what may be missing, repetition, and limits.
use Rattle.std.proofs.Common.{◌≡◌, ℕ, zero, suc, ◌+◌, ◌≤◌, ◌<◌, Bool, true, false, not, cond, ◌&&◌, ◌||◌, List, [], ◌∷◌, ◌++◌, length, Ok, Err, refl, sym, subst, ◌∙◌, inl, inr, ◌⊎◌, append_assoc, arith}
use Rattle.std.proofs.lemmas.List.{append-nil}
use Rattle.std.proofs.lemmas.Option.{slice_get_past}
use Rattle.std.proofs.Math.Nat.{eq-or-lt_of_le}
use Rattle.std.proofs.lemmas.Bool.{cases_order, or_cases, or_parts}
use Rattle.forms.specs.declared.fault.What.{What}
use Rattle.forms.specs.declared.fault.What.TheVariants.{NameBytes}
use Rattle.forms.specs.declared.fault.SyntaxFault.{SyntaxFault}
use Rattle.forms.specs.declared.fault.SyntaxFault.TheVariants as Faults
use Rattle.forms.specs.Symbol.{Source, place_at}
use Rattle.forms.proofs.Meaning.{Meaning, ◌>>=◌, ◌or◌, optional, many_by, item, only, SaysMany}
use Rattle.forms.specs.Shape.{code_at, is_in, are_apart}
use Rattle.forms.specs.Reading.{Answer, Reader, follow, is_long_at, read_item, read_many, read_all, read_or, read_optional, read_only}
use Rattle.forms.proofs.Sets.{apart, in_left, in_right, in_either}
use Rattle.forms.proofs.Laws.{Lawful, Begun, Done, Failed, Wrong, Outcome, Reads, bind_outcome, bind_lawful}

-- two forms that are the same from i on
pub record Same (s : Source) {A : Type 0} (X Z : Meaning A) (i : ℕ) : Type 0 where
  pub says : (k : ℕ) (a : A) → X.Says s i k a → Z.Says s i k a
  pub said : (k : ℕ) (a : A) → Z.Says s i k a → X.Says s i k a
  pub begins : (k : ℕ) → X.Begins s i k → Z.Begins s i k
  pub begun : (k : ℕ) → Z.Begins s i k → X.Begins s i k
  pub passes : (w : What) (k : ℕ) → X.Passes s w i k → Z.Passes s w i k
  pub passed : (w : What) (k : ℕ) → Z.Passes s w i k → X.Passes s w i k

module _ (s : Source) (A : Type 0) (X Z : Meaning A) (i : ℕ) (e : Same s X Z i) where
  same_begun : (c : List ℕ) (j n : ℕ) → Begun s X c i j n → Begun s Z c i j n
  same_begun c j n b = record {
    begins = e.begins j b.begins;
    clean = λ w k h p. b.clean w k h (e.passed w k p);
    shorter = λ k a h p. b.shorter k a h (e.said k a p);
  }

  same_wrong : (j : ℕ) (f : SyntaxFault) → Wrong s X i j f → Wrong s Z i j f
  same_wrong j f w = elim w [
    | inl n ↦ inl (n.0, λ b. n.1 (e.begun (j + 1) b))
    | inr n ↦ inr (n.0, n.1, e.begins (j + 1) n.2, e.passes n.0 (j + 1) n.3, λ v p. n.4 v (e.passed v (j + 1) p))
  ]

  pub same_outcome : (c : List ℕ) (o : Answer A) → Outcome s X c i o → Outcome s Z c i o
  same_outcome c (Ok p) d = record {
    begun = same_begun c p.1 p.1 d.begun;
    says = e.says p.1 p.0 d.says;
    only = λ b q. d.only b (e.said p.1 b q);
    stops = λ b. d.stops (e.begun (p.1 + 1) b);
  }
  same_outcome c (Err f) d = (d.0, record { begun = same_begun c d.0 (d.0 + 1) d.1.begun; wrong = same_wrong d.0 f d.1.wrong })

module _ (s : Source) (A : Type 0) (X : Meaning A) (i : ℕ) (c d : List ℕ) (more : (n : ℕ) → is_in c n ≡ true → is_in d n ≡ true) where
  weaken_begun : (j n : ℕ) → Begun s X c i j n → Begun s X d i j n
  weaken_begun j n b = record { begins = b.begins; clean = b.clean; shorter = λ k a h p. more (code_at s k) (b.shorter k a h p) }

  pub weaken : (o : Answer A) → Outcome s X c i o → Outcome s X d i o
  weaken (Ok p) o = record { begun = weaken_begun p.1 p.1 o.begun; says = o.says; only = o.only; stops = o.stops }
  weaken (Err f) o = (o.0, record { begun = weaken_begun o.0 (o.0 + 1) o.1.begun; wrong = o.1.wrong })

-- choices
or_lawful : (s : Source) {A : Type 0} (X Y : Meaning A) (fX fY : List ℕ) → Lawful s X fX → Lawful s Y fY → Lawful s (X or Y) (fX ++ fY)
unfolding ◌or◌
or_lawful s X Y fX fY lx ly = record {
  empty = λ i. inl (lx.empty i);
  order = λ i j b. elim b [ inl q ↦ lx.order i j q | inr q ↦ ly.order i j q ];
  shorten = λ i k j b h g. elim b [ inl q ↦ inl (lx.shorten i k j q h g) | inr q ↦ inr (ly.shorten i k j q h g) ];
  said = λ i j a p. elim p [ inl q ↦ inl (lx.said i j a q) | inr q ↦ inr (ly.said i j a q) ];
  passed = λ w i j p. elim p [
    | inl q ↦ let y = lx.passed w i j q in (inl y.0, y.1)
    | inr q ↦ let y = ly.passed w i j q in (inr y.0, y.1)
  ];
  bound = λ i j b h. elim b [ inl q ↦ lx.bound i j q h | inr q ↦ ly.bound i j q h ];
  starts = λ i j b h. elim b [
    | inl q ↦ in_left fX fY (code_at s i) (lx.starts i j q h)
    | inr q ↦ in_right fX fY (code_at s i) (ly.starts i j q h)
  ];
}

-- where one of the two forms has nothing but the empty span, the choice is the other
or_same_left : (s : Source) {A : Type 0} (X Y : Meaning A) (fX fY : List ℕ) (i : ℕ) → Lawful s X fX → Lawful s Y fY
    → ((j : ℕ) (a : A) → Y.Says s i j a → i < j) → ((k : ℕ) → Y.Begins s i k → i < k → ⊥) → Same s X (X or Y) i
unfolding ◌or◌
or_same_left s X Y fX fY i lx ly grows other = record {
  says = λ k a p. inl p;
  said = λ k a p. elim p [ inl q ↦ q | inr q ↦ absurd (other k (ly.said i k a q) (grows k a q)) ];
  begins = λ k b. inl b;
  begun = λ k b. elim b [
    | inl q ↦ q
    | inr q ↦ elim (eq-or-lt_of_le (ly.order i k q))
        [ inl e ↦ subst (λ (n : ℕ). X.Begins s i n) e (lx.empty i) | inr h ↦ absurd (other k q h) ]
  ];
  passes = λ w k p. inl p;
  passed = λ w k p. elim p [ inl q ↦ q | inr q ↦ let y = ly.passed w i k q in absurd (other k y.0 y.1) ];
}

or_same_right : (s : Source) {A : Type 0} (X Y : Meaning A) (fX fY : List ℕ) (i : ℕ) → Lawful s X fX → Lawful s Y fY
    → ((j : ℕ) (a : A) → X.Says s i j a → i < j) → ((k : ℕ) → X.Begins s i k → i < k → ⊥) → Same s Y (X or Y) i
unfolding ◌or◌
or_same_right s X Y fX fY i lx ly grows other = record {
  says = λ k a p. inr p;
  said = λ k a p. elim p [ inr q ↦ q | inl q ↦ absurd (other k (lx.said i k a q) (grows k a q)) ];
  begins = λ k b. inr b;
  begun = λ k b. elim b [
    | inr q ↦ q
    | inl q ↦ elim (eq-or-lt_of_le (lx.order i k q))
        [ inl e ↦ subst (λ (n : ℕ). Y.Begins s i n) e (ly.empty i) | inr h ↦ absurd (other k q h) ]
  ];
  passes = λ w k p. inr p;
  passed = λ w k p. elim p [ inr q ↦ q | inl q ↦ let y = lx.passed w i k q in absurd (other k y.0 y.1) ];
}

-- a test of whether a sequence begins at an index
pub record Tested (s : Source) {A : Type 0} (X : Meaning A) (first : List ℕ) (t : ℕ → Bool) : Type 0 where
  pub yes : (i : ℕ) → t i ≡ true → is_in first (code_at s i) ≡ true
  pub no : (i : ℕ) → t i ≡ false → (k : ℕ) → X.Begins s i k → i < k → ⊥

or_outcome : (s : Source) {A : Type 0} (X Y : Meaning A) (fX cX fY cY : List ℕ) (t : ℕ → Bool) (rx ry : Reader A) (i : ℕ) (b : Bool)
    → Reads s X true fX cX rx → Reads s Y true fY cY ry → Tested s X fX t → are_apart fX fY ≡ true → t i ≡ b
    → Outcome s (X or Y) (cX ++ cY) i (cond b (rx i) (ry i))
or_outcome s {A} X Y fX cX fY cY t rx ry i true x y test split h =
    weaken s A (X or Y) i cX (cX ++ cY) (in_left cX cY) (rx i)
    (same_outcome s A X (X or Y) i
    (or_same_left s X Y fX fY i x.lawful y.lawful (y.growing refl i)
    (λ k q g. apart fX fY (code_at s i) split (test.yes i h) (y.lawful.starts i k q g)))
    cX (rx i) (x.reads i))
or_outcome s {A} X Y fX cX fY cY t rx ry i false x y test split h =
    weaken s A (X or Y) i cY (cX ++ cY) (in_right cX cY) (ry i)
    (same_outcome s A Y (X or Y) i
    (or_same_right s X Y fX fY i x.lawful y.lawful (x.growing refl i) (test.no i h))
    cY (ry i) (y.reads i))

or_grows : (s : Source) {A : Type 0} (X Y : Meaning A) → ((i j : ℕ) (a : A) → X.Says s i j a → i < j) → ((i j : ℕ) (a : A) → Y.Says s i j a → i < j)
    → (i j : ℕ) (a : A) → (X or Y).Says s i j a → i < j
unfolding ◌or◌
or_grows s X Y f g i j a p = elim p [ inl q ↦ f i j a q | inr q ↦ g i j a q ]

pub or_reads : {s : Source} {A : Type 0} {X Y : Meaning A} {fX cX fY cY : List ℕ} {t : ℕ → Bool} {rx ry : Reader A}
    → Reads s X true fX cX rx → Reads s Y true fY cY ry → Tested s X fX t → are_apart fX fY ≡ true
    → Reads s (X or Y) true (fX ++ fY) (cX ++ cY) (read_or t rx ry)
unfolding read_or
or_reads {s} {A} {X} {Y} {fX} {cX} {fY} {cY} {t} {rx} {ry} x y test split = record {
  lawful = or_lawful s X Y fX fY x.lawful y.lawful;
  growing = λ _. or_grows s X Y (x.growing refl) (y.growing refl);
  reads = λ i. or_outcome s X Y fX cX fY cY t rx ry i (t i) x y test split refl;
}

-- what may be missing
optional_lawful : (s : Source) {A : Type 0} (a : A) (X : Meaning A) (f : List ℕ) → Lawful s X f → Lawful s (optional a X) f
unfolding optional
optional_lawful s a X f l = record {
  empty = λ i. inl refl;
  order = λ i j b. elim b [ inl e ↦ omega (arith, e) | inr q ↦ l.order i j q ];
  shorten = λ i k j b h g. elim b [
    | inl e ↦ inl (omega (arith, e, h, g))
    | inr q ↦ inr (l.shorten i k j q h g)
  ];
  said = λ i j b p. elim p [ inl e ↦ inl e.0 | inr q ↦ inr (l.said i j b q) ];
  passed = λ w i j p. let y = l.passed w i j p in (inr y.0, y.1);
  bound = λ i j b h. elim b [ inl e ↦ absurd (omega (arith, e)) | inr q ↦ l.bound i j q h ];
  starts = λ i j b h. elim b [ inl e ↦ absurd (omega (arith, e)) | inr q ↦ l.starts i j q h ];
}

module _ (s : Source) (A : Type 0) (v : A) (X : Meaning A) (f c : List ℕ) (l : Lawful s X f) (grows : (i j : ℕ) (a : A) → X.Says s i j a → i < j) where
  optional_absent : (i : ℕ) → ((k : ℕ) → X.Begins s i k → i < k → ⊥) → Done s (optional v X) (c ++ f) i v i
  unfolding optional
  optional_absent i quiet = record {
    begun = record {
      begins = inl refl;
      clean = λ w k g p. let y = l.passed w i k p in omega (arith, y.1);
      shorter = λ k a g p. elim p [
        | inl e ↦ absurd (omega (arith, e.0))
        | inr q ↦ let y = grows i k a q in absurd (omega arith)
      ];
    };
    says = inl (refl, refl);
    only = λ a p. elim p [ inl e ↦ e.1 | inr q ↦ let y = grows i i a q in absurd (omega arith) ];
    stops = λ b. elim b [
      | inl e ↦ omega (arith, e)
      | inr q ↦ quiet (i + 1) q (omega arith)
    ];
  }

  optional_shorter : (i n : ℕ) → is_in f (code_at s i) ≡ true → ((k : ℕ) (a : A) → k < n → X.Says s i k a → is_in c (code_at s k) ≡ true)
      → (k : ℕ) (a : A) → k < n → (optional v X).Says s i k a → is_in (c ++ f) (code_at s k) ≡ true
  unfolding optional
  optional_shorter i n h b k a g p = elim p [
    | inl e ↦ in_right c f (code_at s k) (subst (λ (m : ℕ). is_in f (code_at s m) ≡ true) (sym e.0) h)
    | inr q ↦ in_left c f (code_at s k) (b k a g q)
  ]

  optional_present : (i : ℕ) (o : Answer A) → is_in f (code_at s i) ≡ true → Outcome s X c i o → Outcome s (optional v X) (c ++ f) i o
  unfolding optional
  optional_present i (Ok p) h d =
      let y = grows i p.1 p.0 d.says in
      record {
        begun = record {
          begins = inr d.begun.begins;
          clean = d.begun.clean;
          shorter = optional_shorter i p.1 h d.begun.shorter;
        };
        says = inr d.says;
        only = λ a q. elim q [ inl e ↦ absurd (omega (arith, e.0)) | inr r ↦ d.only a r ];
        stops = λ b. elim b [ inl e ↦ omega (arith, e) | inr q ↦ d.stops q ];
      }
  optional_present i (Err e) h d = (
    d.0,
    record {
      begun = record {
        begins = inr d.1.begun.begins;
        clean = d.1.begun.clean;
        shorter = optional_shorter i (d.0 + 1) h d.1.begun.shorter;
      };
      wrong = elim d.1.wrong [
        | inl n ↦ inl (
          n.0,
          λ b. elim b [
            | inl q ↦ let y = l.order i d.0 d.1.begun.begins in omega (arith, q)
            | inr q ↦ n.1 q
          ],
        )
        | inr n ↦ inr (n.0, n.1, inr n.2, n.3, n.4)
      ];
    },
  )

  optional_outcome : (t : ℕ → Bool) → Tested s X f t → (i : ℕ) (o : Answer A) (b : Bool) → t i ≡ b → Outcome s X c i o
      → Outcome s (optional v X) (c ++ f) i (cond b o (Ok (v, i)))
  optional_outcome t test i o true h d = optional_present i o (test.yes i h) d
  optional_outcome t test i o false h d = optional_absent i (test.no i h)

pub optional_reads : {s : Source} {A : Type 0} {X : Meaning A} {f c : List ℕ} {t : ℕ → Bool} {rx : Reader A} (v : A)
    → Reads s X true f c rx → Tested s X f t → Reads s (optional v X) false f (c ++ f) (read_optional t v rx)
unfolding read_optional
optional_reads {s} {A} {X} {f} {c} {t} {rx} v x test = record {
  lawful = optional_lawful s v X f x.lawful;
  growing = λ e i j a p. absurd cc;
  reads = λ i. optional_outcome s A v X f c x.lawful (x.growing refl) t test i (rx i) (t i) refl (x.reads i);
}

-- repetition, after the meanings before
pub many_from : {A : Type 0} → (List A → Meaning A) → List A → Meaning (List A)
many_from {A} x before = record {
  Says = λ s i j total. (values : List A) × (total ≡ before ++ values) × SaysMany x s before i j values;
  Begins = λ s i j. (j ≡ i) ⊎ ((k : ℕ) × (values : List A) × SaysMany x s before i k values × (x (before ++ values)).Begins s k j);
  Passes = λ s w i j. (k : ℕ) × (values : List A) × SaysMany x s before i k values × (x (before ++ values)).Passes s w k j;
}

module _ (s : Source) (A : Type 0) (x : List A → Meaning A) (f c : List ℕ) (l : (b : List A) → Lawful s (x b) f)
    (grows : (b : List A) (i j : ℕ) (a : A) → (x b).Says s i j a → i < j) where
  one_more : (before : List A) (a : A) (values : List A) → (before ++ a ∷ []) ++ values ≡ before ++ a ∷ values
  one_more before a values = append_assoc before (a ∷ []) values

  push_begins : (before : List A) (i k j : ℕ) (a : A) → (x before).Says s i k a → (many_from x (before ++ a ∷ [])).Begins s k j
      → (many_from x before).Begins s i j
  unfolding many_from
  push_begins before i k j a sx b = elim b [
    | inl e ↦
        inr (k, a ∷ [], (k, sx, refl), subst (λ (n : ℕ). (x (before ++ a ∷ [])).Begins s k n) (sym e) ((l (before ++ a ∷ [])).empty k))
    | inr q ↦ inr (q.0, a ∷ q.1, (k, sx, q.2), subst (λ (m : List A). (x m).Begins s q.0 j) (one_more before a q.1) q.3)
  ]

  many_order : (before : List A) (i k : ℕ) (values : List A) → SaysMany x s before i k values → i ≤ k
  many_order before i k [] e = omega (arith, e)
  many_order before i k (a ∷ values) p =
      let g = grows before i p.0 a p.1 in
      let h = many_order (before ++ a ∷ []) p.0 k values p.2 in
      omega arith

  first_begins : (before : List A) (i j : ℕ) → (x before).Begins s i j → (many_from x before).Begins s i j
  unfolding many_from
  first_begins before i j b = inr (i, [], refl, subst (λ (m : List A). (x m).Begins s i j) (sym (append-nil before)) b)

  many_shorten : (before : List A) (i k m : ℕ) (values : List A) → SaysMany x s before i m values → i ≤ k → k ≤ m → (many_from x before).Begins s i k
  unfolding many_from
  many_shorten before i k m [] e h g = inl (omega (arith, e, h, g))
  many_shorten before i k m (a ∷ values) p h g = elim (cases_order k p.0) [
    | inl e ↦ first_begins before i k ((l before).shorten i k p.0 ((l before).said i p.0 a p.1) h (omega (arith, e)))
    | inr o ↦ elim o [
      | inl t ↦ first_begins before i k ((l before).shorten i k p.0 ((l before).said i p.0 a p.1) h (omega (arith, t)))
      | inr t ↦ push_begins before i p.0 k a p.1 (many_shorten (before ++ a ∷ []) p.0 k m values p.2 (omega (arith, t)) g)
    ]
  ]

  many_starts : (before : List A) (i k j : ℕ) (values : List A) → SaysMany x s before i k values → (x (before ++ values)).Begins s k j
      → i < j → is_in f (code_at s i) ≡ true
  many_starts before i k j [] e b h = (l (before ++ [])).starts i j (subst (λ (n : ℕ). (x (before ++ [])).Begins s n j) e b) h
  many_starts before i k j (a ∷ values) p b h = (l before).starts i p.0 ((l before).said i p.0 a p.1) (grows before i p.0 a p.1)

  many_bound : (before : List A) (i k : ℕ) (values : List A) → SaysMany x s before i k values → i < k → k ≤ length s.tokens
  many_bound before i k [] e h = absurd (omega (arith, e, h))
  many_bound before i k (a ∷ values) p h = elim (eq-or-lt_of_le (many_order (before ++ a ∷ []) p.0 k values p.2)) [
    | inl e ↦
        subst (λ (n : ℕ). n ≤ length s.tokens) e
        ((l before).bound i p.0 ((l before).said i p.0 a p.1) (grows before i p.0 a p.1))
    | inr g ↦ many_bound (before ++ a ∷ []) p.0 k values p.2 g
  ]

  many_lawful : (before : List A) → Lawful s (many_from x before) f
  unfolding many_from
  many_lawful before = record {
    empty = λ i. inl refl;
    order = λ i j b. elim b [
      | inl e ↦ omega (arith, e)
      | inr q ↦ omega (arith, many_order before i q.0 q.1 q.2, (l (before ++ q.1)).order q.0 j q.3)
    ];
    shorten = λ i k j b h g. elim b [
      | inl e ↦ inl (omega (arith, e, h, g))
      | inr q ↦ elim (cases_order k q.0) [
        | inl e ↦ many_shorten before i k q.0 q.1 q.2 h (omega (arith, e))
        | inr o ↦ elim o [
          | inl t ↦ many_shorten before i k q.0 q.1 q.2 h (omega (arith, t))
          | inr t ↦ inr (q.0, q.1, q.2, (l (before ++ q.1)).shorten q.0 k j q.3 (omega (arith, t)) g)
        ]
      ]
    ];
    said = λ i j a p. inr (j, p.0, p.2, (l (before ++ p.0)).empty j);
    passed = λ w i j p.
        let y = (l (before ++ p.1)).passed w p.0 j p.3 in
        (inr (p.0, p.1, p.2, y.0), omega (arith, many_order before i p.0 p.1 p.2, y.1));
    bound = λ i j b h. elim b [
      | inl e ↦ absurd (omega (arith, e))
      | inr q ↦ elim (eq-or-lt_of_le ((l (before ++ q.1)).order q.0 j q.3)) [
        | inl e ↦
            subst (λ (n : ℕ). n ≤ length s.tokens) e (many_bound before i q.0 q.1 q.2 (omega (arith, e, h)))
        | inr g ↦ (l (before ++ q.1)).bound q.0 j q.3 g
      ]
    ];
    starts = λ i j b h. elim b [
      | inl e ↦ absurd (omega (arith, e))
      | inr q ↦ many_starts before i q.0 j q.1 q.2 q.3 h
    ];
  }

  -- nothing, or one sequence and then more
  unrolled : List A → Meaning (List A)
  unrolled before = x before >>= (λ a. many_from x (before ++ a ∷ []))

  unroll_said : (before : List A) (i j : ℕ) (total values : List A) → total ≡ before ++ values → SaysMany x s before i j values
      → (optional before (unrolled before)).Says s i j total
  unfolding optional unrolled ◌>>=◌ many_from
  unroll_said before i j total [] e p = inl (p, e ∙ append-nil before)
  unroll_said before i j total (a ∷ values) e p = inr (p.0, a, p.1, (values, e ∙ sym (one_more before a values), p.2))

  unroll_begun : (before : List A) (i k j : ℕ) (values : List A) → SaysMany x s before i k values → (x (before ++ values)).Begins s k j
      → (optional before (unrolled before)).Begins s i j
  unfolding optional unrolled ◌>>=◌ many_from
  unroll_begun before i k j [] e b =
      inr (inl (subst (λ (m : List A). (x m).Begins s i j) (append-nil before) (subst (λ (n : ℕ). (x (before ++ [])).Begins s n j) e b)))
  unroll_begun before i k j (a ∷ values) p b =
      inr (inr (p.0, a, p.1, inr (k, values, p.2, subst (λ (m : List A). (x m).Begins s k j) (sym (one_more before a values)) b)))

  unroll_passed : (before : List A) (w : What) (i k j : ℕ) (values : List A) → SaysMany x s before i k values → (x (before ++ values)).Passes s w k j
      → (optional before (unrolled before)).Passes s w i j
  unfolding optional unrolled ◌>>=◌ many_from
  unroll_passed before w i k j [] e b =
      inl (subst (λ (m : List A). (x m).Passes s w i j) (append-nil before) (subst (λ (n : ℕ). (x (before ++ [])).Passes s w n j) e b))
  unroll_passed before w i k j (a ∷ values) p b =
      inr (p.0, a, p.1, (k, values, p.2, subst (λ (m : List A). (x m).Passes s w k j) (sym (one_more before a values)) b))

  unroll : (before : List A) (i : ℕ) → Same s (optional before (unrolled before)) (many_from x before) i
  unfolding optional unrolled ◌>>=◌ many_from
  unroll before i = record {
    says = λ k total p. elim p [
      | inl e ↦ ([], e.1 ∙ sym (append-nil before), e.0)
      | inr q ↦ (q.1 ∷ q.3.0, q.3.1 ∙ one_more before q.1 q.3.0, (q.0, q.2, q.3.2))
    ];
    said = λ k total p. unroll_said before i k total p.0 p.1 p.2;
    begins = λ k b. elim b [
      | inl e ↦ inl e
      | inr q ↦ elim q [
        | inl r ↦ first_begins before i k r
        | inr r ↦ push_begins before i r.0 k r.1 r.2 r.3
      ]
    ];
    begun = λ k b. elim b [
      | inl e ↦ inl e
      | inr q ↦ unroll_begun before i q.0 k q.1 q.2 q.3
    ];
    passes = λ w k p. elim p [
      | inl r ↦ (i, [], refl, subst (λ (m : List A). (x m).Passes s w i k) (sym (append-nil before)) r)
      | inr r ↦
          (r.3.0, r.1 ∷ r.3.1, (r.0, r.2, r.3.2), subst (λ (m : List A). (x m).Passes s w r.3.0 k) (one_more before r.1 r.3.1) r.3.3)
    ];
    passed = λ w k p. unroll_passed before w i p.0 k p.1 p.2 p.3;
  }

  unrolled_lawful : (before : List A) → Lawful s (unrolled before) f
  unfolding unrolled
  unrolled_lawful before =
      bind_lawful s A (List A) (x before) (λ a. many_from x (before ++ a ∷ [])) f f (l before) (λ a. many_lawful (before ++ a ∷ [])) f
      (λ n h. h) (λ i a p n h. let g = grows before i i a p in absurd (omega arith))

  unrolled_grows : (before : List A) (i j : ℕ) (total : List A) → (unrolled before).Says s i j total → i < j
  unfolding unrolled ◌>>=◌ many_from
  unrolled_grows before i j total p =
      omega (arith, grows before i p.0 p.1 p.2, many_order (before ++ p.1 ∷ []) p.0 j p.3.0 p.3.2)

  -- what is left of the symbols after a repetition
  shrink : (n : ℕ) → is_in ((c ++ (c ++ f)) ++ f) n ≡ true → is_in (c ++ f) n ≡ true
  shrink n h = elim (in_either (c ++ (c ++ f)) f n h) [
    | inl g ↦ elim (in_either c (c ++ f) n g) [ inl e ↦ in_left c f n e | inr e ↦ e ]
    | inr g ↦ in_right c f n g
  ]

  -- where no item begins, nothing of the repetition does
  unrolled_quiet : (before : List A) (i : ℕ) → ((k : ℕ) → (x before).Begins s i k → i < k → ⊥) → (k : ℕ) → (unrolled before).Begins s i k → i < k → ⊥
  unfolding unrolled ◌>>=◌
  unrolled_quiet before i quiet k b h = elim b [
    | inl q ↦ quiet k q h
    | inr q ↦ quiet q.0 ((l before).said i q.0 q.1 q.2) (grows before i q.0 q.1 q.2)
  ]

  module _ (split : are_apart f c ≡ true) (t : List A → ℕ → Bool) (test : (b : List A) → Tested s (x b) f (t b)) (rx : List A → Reader A)
      (reads : (b : List A) (i : ℕ) → Outcome s (x b) c i (rx b i)) where
    many_stop : (before : List A) (i : ℕ) → ((k : ℕ) → (x before).Begins s i k → i < k → ⊥) → Outcome s (many_from x before) (c ++ f) i (Ok (before, i))
    many_stop before i quiet =
        weaken s (List A) (many_from x before) i ((c ++ (c ++ f)) ++ f) (c ++ f) shrink (Ok (before, i))
        (same_outcome s (List A) (optional before (unrolled before)) (many_from x before) i (unroll before i) ((c ++ (c ++ f)) ++ f) (Ok (before, i))
        (optional_absent s (List A) before (unrolled before) f (c ++ (c ++ f)) (unrolled_lawful before) (unrolled_grows before) i (unrolled_quiet before i quiet)))

    many_go : (before : List A) (i : ℕ) (o : Answer (List A)) → is_in f (code_at s i) ≡ true → Outcome s (unrolled before) (c ++ (c ++ f)) i o
        → Outcome s (many_from x before) (c ++ f) i o
    many_go before i o h d =
        weaken s (List A) (many_from x before) i ((c ++ (c ++ f)) ++ f) (c ++ f) shrink o
        (same_outcome s (List A) (optional before (unrolled before)) (many_from x before) i (unroll before i) ((c ++ (c ++ f)) ++ f) o
        (optional_present s (List A) before (unrolled before) f (c ++ (c ++ f)) (unrolled_lawful before) (unrolled_grows before) i o h d))

    many_turn : (n : ℕ) (before : List A) (i : ℕ) (b : Bool) → t before i ≡ b
        → ((a : A) (j : ℕ) → i < j → Outcome s (many_from x (before ++ a ∷ [])) (c ++ f) j (read_many n t rx (before ++ a ∷ []) j))
        → Outcome s (many_from x before) (c ++ f) i
        (cond b (follow (rx before i) (λ a j. read_many n t rx (before ++ a ∷ []) j)) (Ok (before, i)))
    unfolding unrolled
    many_turn n before i true h next =
        many_go before i _ ((test before).yes i h)
        (bind_outcome s A (List A) (x before) (λ a. many_from x (before ++ a ∷ [])) f c f (c ++ f) (c ++ (c ++ f)) (l before) (λ a. many_lawful (before ++ a ∷ []))
        split (record { left = λ k a b p. in_left c (c ++ f); right = in_right c (c ++ f) }) i
        (rx before i) (λ a j. read_many n t rx (before ++ a ∷ []) j) (reads before i) (λ a j d. next a j (grows before i j a d.says)))
    many_turn n before i false h next = many_stop before i ((test before).no i h)

    many_outcome : (n : ℕ) (before : List A) (i : ℕ) → length s.tokens ≤ i + n → Outcome s (many_from x before) (c ++ f) i (read_many n t rx before i)
    unfolding read_many
    many_outcome zero before i h = many_stop before i (λ k b g. let y = (l before).bound i k b g in omega (arith, h, y, g))
    many_outcome (suc n) before i h = many_turn n before i (t before i) refl (λ a j g. many_outcome n (before ++ a ∷ []) j (omega (arith, h, g)))

    many_same : (i : ℕ) → Same s (many_from x []) (many_by x) i
    unfolding many_from many_by
    many_same i = record {
      says = λ k a p. subst (λ (m : List A). SaysMany x s [] i k m) (sym p.1) p.2;
      said = λ k a p. (a, refl, p);
      begins = λ k b. b;
      begun = λ k b. b;
      passes = λ w k p. p;
      passed = λ w k p. p;
    }

    many_all : (i : ℕ) → Outcome s (many_by x) (c ++ f) i (read_all s t rx i)
    unfolding read_all
    many_all i =
        same_outcome s (List A) (many_from x []) (many_by x) i (many_same i) (c ++ f) (read_many (length s.tokens) t rx [] i)
        (many_outcome (length s.tokens) [] i (omega arith))

  many_by_lawful : Lawful s (many_by x) f
  unfolding many_by many_from
  many_by_lawful =
      let m = many_lawful [] in
      record {
        empty = m.empty;
        order = m.order;
        shorten = m.shorten;
        said = λ i j a p. m.said i j a (a, refl, p);
        passed = m.passed;
        bound = m.bound;
        starts = m.starts;
      }

pub code_behind : (s : Source) (i : ℕ) → length s.tokens ≤ i → code_at s i ≡ 0
unfolding code_at
code_behind s i h = rw (slice_get_past s.tokens i h) refl

pub many_reads : {s : Source} {A : Type 0} {x : List A → Meaning A} {f : List ℕ} {t : List A → ℕ → Bool} (c : List ℕ) (rx : List A → Reader A)
    → ((b : List A) → Reads s (x b) true f c (rx b)) → ((b : List A) → Tested s (x b) f (t b)) → are_apart f c ≡ true
    → Reads s (many_by x) false f (c ++ f) (read_all s t rx)
many_reads {s} {A} {x} {f} {t} c rx y test split = record {
  lawful = many_by_lawful s A x f c (λ b. (y b).lawful) (λ b. (y b).growing refl);
  growing = λ e i j a p. absurd cc;
  reads = λ i. many_all s A x f c (λ b. (y b).lawful) (λ b. (y b).growing refl) split t test rx (λ b. (y b).reads) i;
}

-- the first token of the meaning, as a test tells it: no token there is past a limit
pub record Opens (s : Source) {A : Type 0} (X : Meaning A) (t : ℕ → Bool) : Type 0 where
  pub opening : (i : ℕ) → t i ≡ true → X.Begins s i (i + 1) × ((v : What) → X.Passes s v i (i + 1) → ⊥)
  pub silent : (i : ℕ) → t i ≡ false → X.Begins s i (i + 1) → (X.Passes s NameBytes i (i + 1) → ⊥) → ⊥

pub opens_bind : {s : Source} {A B : Type 0} {X : Meaning A} {Y : A → Meaning B} {t : ℕ → Bool} {fX fY : List ℕ}
    → Lawful s X fX → ((i j : ℕ) (a : A) → X.Says s i j a → i < j) → ((a : A) → Lawful s (Y a) fY) → Opens s X t → Opens s (X >>= Y) t
unfolding ◌>>=◌
opens_bind {s} {A} {B} {X} {Y} {t} {fX} {fY} lx grows ly o = record {
  opening = λ i h. let y = o.opening i h in (
    inl y.0,
    λ v p. elim p [
      | inl q ↦ y.1 v q
      | inr q ↦ omega (arith, grows i q.0 q.1 q.2, ((ly q.1).passed v q.0 (i + 1) q.3).1)
    ],
  );
  silent = λ i h b g. elim b [
    | inl q ↦ o.silent i h q (λ p. g (inl p))
    | inr q ↦
        let at : q.0 ≡ i + 1 = omega (arith, grows i q.0 q.1 q.2, (ly q.1).order q.0 (i + 1) q.3) in
        o.silent i h (subst (λ (n : ℕ). X.Begins s i n) at (lx.said i q.0 q.1 q.2)) (λ p. g (inl p))
  ];
}

-- items that may be too many
item_lawful : (s : Source) {A : Type 0} (full : Bool) (what : What) (X : Meaning A) (f : List ℕ) → Lawful s X f → Lawful s (item full what X) f
unfolding item
item_lawful s full what X f l = record {
  empty = l.empty;
  order = l.order;
  shorten = l.shorten;
  said = l.said;
  passed = λ w i j p. elim p [ inl q ↦ l.passed w i j q | inr q ↦ (q.3, omega (arith, q.2)) ];
  bound = l.bound;
  starts = l.starts;
}

item_same : (s : Source) {A : Type 0} (full : Bool) (what : What) (X : Meaning A) (i : ℕ)
    → (full ≡ true → X.Begins s i (i + 1) → (X.Passes s NameBytes i (i + 1) → ⊥) → ⊥) → Same s X (item full what X) i
unfolding item
item_same s full what X i quiet = record {
  says = λ k a p. p;
  said = λ k a p. p;
  begins = λ k b. b;
  begun = λ k b. b;
  passes = λ w k p. inl p;
  passed = λ w k p. elim p [
    | inl q ↦ q
    | inr q ↦ absurd (quiet q.0 (subst (λ (n : ℕ). X.Begins s i n) q.2 q.3) (subst (λ (n : ℕ). X.Passes s NameBytes i n → ⊥) q.2 q.4))
  ];
}

item_full : (s : Source) {A : Type 0} (what : What) (X : Meaning A) (f c : List ℕ) (i : ℕ) → Lawful s X f
    → ((i j : ℕ) (a : A) → X.Says s i j a → i < j) → X.Begins s i (i + 1) → ((v : What) → X.Passes s v i (i + 1) → ⊥)
    → Failed s (item true what X) c i (Faults.TooMany what (place_at s i)) i
unfolding item
item_full s what X f c i l grows b clear = record {
  begun = record {
    begins = l.empty i;
    clean = λ w k h p. elim p [
      | inl q ↦ let y = l.passed w i k q in omega (arith, y.1)
      | inr q ↦ omega (arith, q.2)
    ];
    shorter = λ k a h p. let y = grows i k a p in absurd (omega arith);
  };
  wrong = inr (
    what,
    refl,
    b,
    inr (refl, refl, refl, b, clear NameBytes),
    λ v p. elim p [
      | inl q ↦ absurd (clear v q)
      | inr q ↦ q.1
    ],
  );
}

item_outcome : (s : Source) {A : Type 0} (what : What) (X : Meaning A) (f c : List ℕ) (t : ℕ → Bool) (i : ℕ) (o : Answer A) (full b : Bool)
    → Lawful s X f → ((i j : ℕ) (a : A) → X.Says s i j a → i < j) → Opens s X t → t i ≡ b → Outcome s X c i o
    → Outcome s (item full what X) c i (cond (full && b) (Err (Faults.TooMany what (place_at s i))) o)
item_outcome s what X f c t i o true true l grows opens h d = let y = opens.opening i h in (i, item_full s what X f c i l grows y.0 y.1)
item_outcome s {A} what X f c t i o true false l grows opens h d =
    same_outcome s A X (item true what X) i (item_same s true what X i (λ _. opens.silent i h)) c o d
item_outcome s {A} what X f c t i o false b l grows opens h d =
    same_outcome s A X (item false what X) i (item_same s false what X i (λ e. absurd (let g : false ≡ true = e in cc))) c o d

item_grows : (s : Source) {A : Type 0} (full : Bool) (what : What) (X : Meaning A) → ((i j : ℕ) (a : A) → X.Says s i j a → i < j)
    → (i j : ℕ) (a : A) → (item full what X).Says s i j a → i < j
unfolding item
item_grows s full what X g = g

pub item_reads : {s : Source} {A : Type 0} {X : Meaning A} {f c : List ℕ} {r : Reader A} (t : ℕ → Bool) (full : Bool) (what : What)
    → Reads s X true f c r → Opens s X (λ i. t i && not (is_long_at s i)) → Reads s (item full what X) true f c (read_item s full t what r)
unfolding read_item
item_reads {s} {A} {X} {f} {c} {r} t full what x opens = record {
  lawful = item_lawful s full what X f x.lawful;
  growing = λ _. item_grows s full what X (x.growing refl);
  reads = λ i. item_outcome s what X f c (λ j. t j && not (is_long_at s j)) i (r i) full (t i && not (is_long_at s i)) x.lawful (x.growing refl) opens refl (x.reads i);
}

-- a choice opens as the one meaning or the other does
pub opens_or : {s : Source} {A : Type 0} {X Y : Meaning A} {fX cX fY cY : List ℕ} {t u : ℕ → Bool} {rx ry : Reader A}
    → Reads s X true fX cX rx → Reads s Y true fY cY ry → are_apart fX fY ≡ true → Opens s X t → Opens s Y u → Opens s (X or Y) (λ i. t i || u i)
unfolding ◌or◌
opens_or {s} {A} {X} {Y} {fX} {cX} {fY} {cY} {t} {u} {rx} {ry} x y split ox oy = record {
  opening = λ i h. elim (or_cases (t i) (u i) h) [
    | inl e ↦
        let o = ox.opening i e in
        let here = x.lawful.starts i (i + 1) o.0 (omega arith) in (
          inl o.0,
          λ v p. elim p [
            | inl q ↦ o.1 v q
            | inr q ↦ let z = y.lawful.passed v i (i + 1) q in apart fX fY (code_at s i) split here (y.lawful.starts i (i + 1) z.0 z.1)
          ],
        )
    | inr e ↦
        let o = oy.opening i e in
        let here = y.lawful.starts i (i + 1) o.0 (omega arith) in (
          inr o.0,
          λ v p. elim p [
            | inl q ↦ let z = x.lawful.passed v i (i + 1) q in apart fX fY (code_at s i) split (x.lawful.starts i (i + 1) z.0 z.1) here
            | inr q ↦ o.1 v q
          ],
        )
  ];
  silent = λ i h b g. elim b [
    | inl q ↦ ox.silent i ((or_parts (t i) (u i) h).0) q (λ p. g (inl p))
    | inr q ↦ oy.silent i ((or_parts (t i) (u i) h).1) q (λ p. g (inr p))
  ];
}

-- what is allowed or not
only_lawful : (s : Source) {A : Type 0} (b : Bool) (X : Meaning A) (f : List ℕ) → Lawful s X f → Lawful s (only b X) f
unfolding only
only_lawful s b X f l = record {
  empty = λ i. inl refl;
  order = λ i j h. elim h [ inl e ↦ omega (arith, e) | inr q ↦ l.order i j q.1 ];
  shorten = λ i k j h g t. elim h [
    | inl e ↦ inl (omega (arith, e, g, t))
    | inr q ↦ inr (q.0, l.shorten i k j q.1 g t)
  ];
  said = λ i j a p. inr (p.0, l.said i j a p.1);
  passed = λ w i j p. let y = l.passed w i j p.1 in (inr (p.0, y.0), y.1);
  bound = λ i j h g. elim h [ inl e ↦ absurd (omega (arith, e)) | inr q ↦ l.bound i j q.1 g ];
  starts = λ i j h g. elim h [ inl e ↦ absurd (omega (arith, e)) | inr q ↦ l.starts i j q.1 g ];
}

only_same : (s : Source) {A : Type 0} (X : Meaning A) (f : List ℕ) → Lawful s X f → (i : ℕ) → Same s X (only true X) i
unfolding only
only_same s X f l i = record {
  says = λ k a p. (refl, p);
  said = λ k a p. p.1;
  begins = λ k b. inr (refl, b);
  begun = λ k b. elim b [ inl e ↦ subst (λ (n : ℕ). X.Begins s i n) (sym e) (l.empty i) | inr q ↦ q.1 ];
  passes = λ w k p. (refl, p);
  passed = λ w k p. p.1;
}

only_refused : (s : Source) {A : Type 0} (X : Meaning A) (c : List ℕ) (i : ℕ) → Failed s (only false X) c i (Faults.Unexpected (place_at s i)) i
unfolding only
only_refused s X c i = record {
  begun = record {
    begins = inl refl;
    clean = λ w k h p. let e : false ≡ true = p.0 in cc;
    shorter = λ k a h p. let e : false ≡ true = p.0 in cc;
  };
  wrong = inl (refl, λ b. elim b [ inl e ↦ omega (arith, e) | inr q ↦ let e : false ≡ true = q.0 in cc ]);
}

only_outcome : (s : Source) {A : Type 0} (b : Bool) (X : Meaning A) (f c : List ℕ) → Lawful s X f → (i : ℕ) (o : Answer A) → Outcome s X c i o
    → Outcome s (only b X) c i (cond b o (Err (Faults.Unexpected (place_at s i))))
only_outcome s {A} true X f c l i o d = same_outcome s A X (only true X) i (only_same s X f l i) c o d
only_outcome s false X f c l i o d = (i, only_refused s X c i)

only_grows : (s : Source) {A : Type 0} (b : Bool) (X : Meaning A) → ((i j : ℕ) (a : A) → X.Says s i j a → i < j)
    → (i j : ℕ) (a : A) → (only b X).Says s i j a → i < j
unfolding only
only_grows s b X g i j a p = g i j a p.1

pub only_reads : {s : Source} {A : Type 0} {X : Meaning A} {f c : List ℕ} {r : Reader A} (b : Bool) → Reads s X true f c r
    → Reads s (only b X) true f c (read_only s b r)
unfolding read_only
only_reads {s} {A} {X} {f} {c} {r} b x = record {
  lawful = only_lawful s b X f x.lawful;
  growing = λ _. only_grows s b X (x.growing refl);
  reads = λ i. only_outcome s b X f c x.lawful i (r i) (x.reads i);
}

both_true : (b d : Bool) → (b && d) ≡ true → (b ≡ true) × (d ≡ true)
both_true true d h = (refl, h)
both_true false d h = absurd (let e : false ≡ true = h in cc)

pub second_false : (b d : Bool) → b ≡ true → (b && d) ≡ false → d ≡ false
second_false true d e h = h
second_false false d e h = absurd (let g : false ≡ true = e in cc)

pub opens_only : {s : Source} {A : Type 0} {X : Meaning A} {t : ℕ → Bool} (b : Bool) → Opens s X t → Opens s (only b X) (λ i. b && t i)
unfolding only
opens_only {s} {A} {X} {t} b o = record {
  opening = λ i h.
      let e = both_true b (t i) h in
      let y = o.opening i e.1 in
      (inr (e.0, y.0), λ v p. y.1 v p.1);
  silent = λ i h g k. elim g [
    | inl e ↦ omega (arith, e)
    | inr q ↦ o.silent i (second_false b (t i) q.0 h) q.1 (λ p. k (q.0, p))
  ];
}
