-- What a reader answers about a meaning of the grammar, and that this carries over from parts to wholes.
use Rattle.std.proofs.Common.{length, ◌≡◌, ℕ, ◌+◌, ◌≤◌, ◌<◌, Bool, true, false, cond, List, [], ◌++◌, Ok, Err, refl, sym, subst, inl, inr, ◌⊎◌, arith}
use Rattle.std.proofs.Math.Nat.{eq-or-lt_of_le}
use Rattle.std.proofs.lemmas.Bool.{cases_order}
use Rattle.forms.specs.declared.fault.What.{What}
use Rattle.forms.specs.declared.fault.SyntaxFault.{SyntaxFault}
use Rattle.forms.specs.declared.fault.SyntaxFault.TheVariants as Faults
use Rattle.forms.specs.Symbol.{Source, place_at}
use Rattle.forms.proofs.Meaning.{Meaning, gives, ◌>>=◌}
use Rattle.forms.specs.Shape.{code_at, is_in, are_apart}
use Rattle.forms.specs.Reading.{Answer, Reader, follow, read_then}
use Rattle.forms.proofs.Sets.{apart, in_left, in_right}

-- what holds of every meaning; its sequences begin with one of the symbols of `first`
pub record Lawful (s : Source) {A : Type 0} (X : Meaning A) (first : List ℕ) : Type 0 where
  pub empty : (i : ℕ) → X.Begins s i i
  pub order : (i j : ℕ) → X.Begins s i j → i ≤ j
  pub shorten : (i k j : ℕ) → X.Begins s i j → i ≤ k → k ≤ j → X.Begins s i k
  pub said : (i j : ℕ) (a : A) → X.Says s i j a → X.Begins s i j
  pub passed : (w : What) (i j : ℕ) → X.Passes s w i j → X.Begins s i j × (i < j)
  pub starts : (i j : ℕ) → X.Begins s i j → i < j → is_in first (code_at s i) ≡ true
  pub bound : (i j : ℕ) → X.Begins s i j → i < j → j ≤ length s.tokens

-- The span from i to j begins the meaning, and no item up to j is past a limit. Where a shorter span, below n, is a sequence, the meaning may go
-- on there with a symbol of `cont` alone.
pub record Begun (s : Source) {A : Type 0} (X : Meaning A) (cont : List ℕ) (i j n : ℕ) : Type 0 where
  pub begins : X.Begins s i j
  pub clean : (w : What) (k : ℕ) → k ≤ j → X.Passes s w i k → ⊥
  pub shorter : (k : ℕ) (a : A) → k < n → X.Says s i k a → is_in cont (code_at s k) ≡ true

-- the longest span from i that is a sequence
pub record Done (s : Source) {A : Type 0} (X : Meaning A) (cont : List ℕ) (i : ℕ) (a : A) (j : ℕ) : Type 0 where
  pub begun : Begun s X cont i j j
  pub says : X.Says s i j a
  pub only : (b : A) → X.Says s i j b → b ≡ a
  pub stops : X.Begins s i (j + 1) → ⊥

abbrev pub Wrong : (s : Source) {A : Type 0} (X : Meaning A) (i j : ℕ) (e : SyntaxFault) → Type 0
Wrong s X i j e =
    ((e ≡ Faults.Unexpected (place_at s j)) × (X.Begins s i (j + 1) → ⊥))
    ⊎ ((w : What) × (e ≡ Faults.TooMany w (place_at s j)) × X.Begins s i (j + 1) × X.Passes s w i (j + 1)
    × ((v : What) → X.Passes s v i (j + 1) → v ≡ w))

-- the token at j is the first that is wrong
pub record Failed (s : Source) {A : Type 0} (X : Meaning A) (cont : List ℕ) (i : ℕ) (e : SyntaxFault) (j : ℕ) : Type 0 where
  pub begun : Begun s X cont i j (j + 1)
  pub wrong : Wrong s X i j e

abbrev pub Outcome : (s : Source) {A : Type 0} (X : Meaning A) (cont : List ℕ) (i : ℕ) → Answer A → Type 0
Outcome s X cont i (Ok p) = Done s X cont i p.0 p.1
Outcome s X cont i (Err e) = (j : ℕ) × Failed s X cont i e j

-- the reader reads the meaning; where `grows` is true, no sequence of it is empty
pub record Reads (s : Source) {A : Type 0} (X : Meaning A) (grows : Bool) (first cont : List ℕ) (r : Reader A) : Type 0 where
  pub lawful : Lawful s X first
  pub growing : grows ≡ true → (i j : ℕ) (a : A) → X.Says s i j a → i < j
  pub reads : (i : ℕ) → Outcome s X cont i (r i)

-- where the second meaning may be empty, the whole may go on as the first may
pub record Continues (s : Source) {A B : Type 0} (Y : A → Meaning B) (cX cY d : List ℕ) : Type 0 where
  pub left : (k : ℕ) (a : A) (b : B) → (Y a).Says s k k b → (n : ℕ) → is_in cX n ≡ true → is_in d n ≡ true
  pub right : (n : ℕ) → is_in cY n ≡ true → is_in d n ≡ true

module _ (s : Source) (A B : Type 0) (X : Meaning A) (Y : A → Meaning B) (fX cX fY cY d : List ℕ)
    (lx : Lawful s X fX) (ly : (a : A) → Lawful s (Y a) fY) (split : are_apart fY cX ≡ true) (on : Continues s Y cX cY d) where
  -- nothing of the second meaning follows a sequence of the first that is too short
  early : (i j n k m : ℕ) → Begun s X cX i j n → (a : A) → X.Says s i m a → m < n → (Y a).Begins s m k → m < k → ⊥
  early i j n k m b a sx h y g = apart fY cX (code_at s m) split ((ly a).starts m k y g) (b.shorter m a h sx)

  late : (i j m : ℕ) (a b : A) → Done s X cX i a j → X.Says s i m b → j < m → ⊥
  late i j m a b w sx h =
      let o = lx.order i j w.begun.begins in
      w.stops (lx.shorten i (j + 1) m (lx.said i m b sx) (omega arith) (omega arith))

  past : (i j k : ℕ) (a : A) → Done s X cX i a j → X.Begins s i k → j < k → ⊥
  past i j k a w b h =
      let o = lx.order i j w.begun.begins in
      w.stops (lx.shorten i (j + 1) k b (omega arith) (omega arith))

  -- where something of the second meaning follows, the first ends where it was read to end
  seam : (i j k m : ℕ) (a b : A) → Done s X cX i a j → X.Says s i m b → (Y b).Begins s m k → m < k → (m ≡ j) × (b ≡ a)
  seam i j k m a b w sx y h = elim (cases_order m j) [
    | inl e ↦ (e, w.only b (subst (λ (n : ℕ). X.Says s i n b) e sx))
    | inr o ↦ elim o [ inl l ↦ absurd (early i j j k m w.begun b sx l y h) | inr g ↦ absurd (late i j m a b w sx g) ]
  ]

  move : (P : ℕ → A → Type 0) (m j : ℕ) (b a : A) → (m ≡ j) × (b ≡ a) → P m b → P j a
  move P m j b a e p = subst (λ (n : ℕ). P n a) e.0 (subst (λ (c : A). P m c) e.1 p)

  bind_failed : (i j : ℕ) (e : SyntaxFault) → Failed s X cX i e j → Failed s (X >>= Y) d i e j
  unfolding ◌>>=◌
  bind_failed i j e f = record {
    begun = record {
      begins = inl f.begun.begins;
      clean = λ w k h p. elim p [
        | inl q ↦ f.begun.clean w k h q
        | inr q ↦ let y = (ly q.1).passed w q.0 k q.3 in early i j (j + 1) k q.0 f.begun q.1 q.2 (omega (arith, y.1)) y.0 y.1
      ];
      shorter = λ k b h p.
          let y = (ly p.1).said p.0 k b p.3 in
          elim (eq-or-lt_of_le ((ly p.1).order p.0 k y)) [
            | inl g ↦ on.left k p.1 b (subst (λ (n : ℕ). (Y p.1).Says s n k b) g p.3) (code_at s k)
                (subst (λ (n : ℕ). is_in cX (code_at s n) ≡ true) g (f.begun.shorter p.0 p.1 (omega (arith, g)) p.2))
            | inr g ↦ absurd (early i j (j + 1) k p.0 f.begun p.1 p.2 (omega (arith, g)) y g)
          ];
    };
    wrong = elim f.wrong [
      | inl n ↦ inl (
        n.0,
        λ b. elim b [
          | inl q ↦ n.1 q
          | inr q ↦ elim (eq-or-lt_of_le ((ly q.1).order q.0 (j + 1) q.3)) [
            | inl g ↦ n.1 (subst (λ (n : ℕ). X.Begins s i n) g (lx.said i q.0 q.1 q.2))
            | inr g ↦ early i j (j + 1) (j + 1) q.0 f.begun q.1 q.2 g q.3 g
          ]
        ],
      )
      | inr n ↦ inr (
        n.0,
        n.1,
        inl n.2,
        inl n.3,
        λ v p. elim p [
          | inl q ↦ n.4 v q
          | inr q ↦ let y = (ly q.1).passed v q.0 (j + 1) q.3 in absurd (early i j (j + 1) (j + 1) q.0 f.begun q.1 q.2 y.1 y.0 y.1)
        ],
      )
    ];
  }

  bind_clean : (i j l : ℕ) (a : A) → Done s X cX i a j → ((w : What) (k : ℕ) → k ≤ l → (Y a).Passes s w j k → ⊥)
      → (w : What) (k : ℕ) → k ≤ l → (X >>= Y).Passes s w i k → ⊥
  unfolding ◌>>=◌
  bind_clean i j l a w c v k h p = elim p [
    | inl q ↦ elim (cases_order k j) [
      | inl e ↦ w.begun.clean v k (omega arith) q
      | inr o ↦ elim o [ inl g ↦ w.begun.clean v k (omega arith) q | inr g ↦ past i j k a w (lx.passed v i k q).0 g ]
    ]
    | inr q ↦ let y = (ly q.1).passed v q.0 k q.3 in
        c v k h (move (λ (n : ℕ) (b : A). (Y b).Passes s v n k) q.0 j q.1 a (seam i j k q.0 a q.1 w q.2 y.0 y.1) q.3)
  ]

  bind_shorter : (i j n : ℕ) (a : A) → Done s X cX i a j → ((k : ℕ) (b : B) → k < n → (Y a).Says s j k b → is_in cY (code_at s k) ≡ true)
      → (k : ℕ) (b : B) → k < n → (X >>= Y).Says s i k b → is_in d (code_at s k) ≡ true
  unfolding ◌>>=◌
  bind_shorter i j n a w c k b h p =
      let y = (ly p.1).said p.0 k b p.3 in
      let le = (ly p.1).order p.0 k y in
      elim (cases_order p.0 j) [
        | inl e ↦
            on.right (code_at s k) (c k b h (move (λ (m : ℕ) (x : A). (Y x).Says s m k b) p.0 j p.1 a (e, w.only p.1 (subst (λ (m : ℕ). X.Says s i m p.1) e p.2)) p.3))
        | inr o ↦ elim o [
          | inl g ↦ elim (eq-or-lt_of_le le) [
            | inl e ↦ on.left k p.1 b (subst (λ (n : ℕ). (Y p.1).Says s n k b) e p.3) (code_at s k) (subst (λ (m : ℕ). is_in cX (code_at s m) ≡ true) e (w.begun.shorter p.0 p.1 g p.2))
            | inr t ↦ absurd (early i j j k p.0 w.begun p.1 p.2 g y t)
          ]
          | inr g ↦ absurd (late i j p.0 a p.1 w p.2 g)
        ]
      ]

  bind_stops : (i j l : ℕ) (a : A) → Done s X cX i a j → j ≤ l → ((Y a).Begins s j (l + 1) → ⊥) → (X >>= Y).Begins s i (l + 1) → ⊥
  unfolding ◌>>=◌
  bind_stops i j l a w h stop b = elim b [
    | inl q ↦ past i j (l + 1) a w q (omega arith)
    | inr q ↦ elim (cases_order q.0 j) [
      | inl e ↦ stop (move (λ (m : ℕ) (x : A). (Y x).Begins s m (l + 1)) q.0 j q.1 a (e, w.only q.1 (subst (λ (m : ℕ). X.Says s i m q.1) e q.2)) q.3)
      | inr o ↦ elim o [
        | inl g ↦ early i j j (l + 1) q.0 w.begun q.1 q.2 g q.3 (omega arith)
        | inr g ↦ late i j q.0 a q.1 w q.2 g
      ]
    ]
  ]

  bind_done_failed : (i j l : ℕ) (a : A) (e : SyntaxFault) → Done s X cX i a j → Failed s (Y a) cY j e l → Failed s (X >>= Y) d i e l
  unfolding ◌>>=◌
  bind_done_failed i j l a e w f =
      let le = (ly a).order j l f.begun.begins in
      record {
        begun = record {
          begins = inr (j, a, w.says, f.begun.begins);
          clean = bind_clean i j l a w f.begun.clean;
          shorter = bind_shorter i j (l + 1) a w f.begun.shorter;
        };
        wrong = elim f.wrong [
          | inl n ↦ inl (n.0, bind_stops i j l a w le n.1)
          | inr n ↦ inr (
            n.0,
            n.1,
            inr (j, a, w.says, n.2),
            inr (j, a, w.says, n.3),
            λ v p. elim p [
              | inl q ↦ absurd (past i j (l + 1) a w (lx.passed v i (l + 1) q).0 (omega arith))
              | inr q ↦ let y = (ly q.1).passed v q.0 (l + 1) q.3 in
                  n.4 v (move (λ (m : ℕ) (x : A). (Y x).Passes s v m (l + 1)) q.0 j q.1 a (seam i j (l + 1) q.0 a q.1 w q.2 y.0 y.1) q.3)
            ],
          )
        ];
      }

  bind_done_done : (i j l : ℕ) (a : A) (b : B) → Done s X cX i a j → Done s (Y a) cY j b l → Done s (X >>= Y) d i b l
  unfolding ◌>>=◌
  bind_done_done i j l a b w f =
      let le = (ly a).order j l f.begun.begins in
      record {
        begun = record {
          begins = inr (j, a, w.says, f.begun.begins);
          clean = bind_clean i j l a w f.begun.clean;
          shorter = bind_shorter i j l a w f.begun.shorter;
        };
        says = (j, a, w.says, f.says);
        only = λ c p. elim (cases_order p.0 j) [
          | inl e ↦ f.only c (move (λ (m : ℕ) (x : A). (Y x).Says s m l c) p.0 j p.1 a (e, w.only p.1 (subst (λ (m : ℕ). X.Says s i m p.1) e p.2)) p.3)
          | inr o ↦ elim o [
            | inl g ↦ absurd (early i j j l p.0 w.begun p.1 p.2 g ((ly p.1).said p.0 l c p.3) (omega arith))
            | inr g ↦ absurd (late i j p.0 a p.1 w p.2 g)
          ]
        ];
        stops = bind_stops i j l a w le f.stops;
      }

  bind_second : (i j : ℕ) (a : A) (o : Answer B) → Done s X cX i a j → Outcome s (Y a) cY j o → Outcome s (X >>= Y) d i o
  bind_second i j a (Ok p) w f = bind_done_done i j p.1 a p.0 w f
  bind_second i j a (Err e) w f = (f.0, bind_done_failed i j f.0 a e w f.1)

  pub bind_outcome : (i : ℕ) (o : Answer A) (ry : A → Reader B) → Outcome s X cX i o
      → ((a : A) (j : ℕ) → Done s X cX i a j → Outcome s (Y a) cY j (ry a j)) → Outcome s (X >>= Y) d i (follow o ry)
  bind_outcome i (Ok p) ry w f = bind_second i p.1 p.0 (ry p.0 p.1) w (f p.0 p.1 w)
  bind_outcome i (Err e) ry w f = (w.0, bind_failed i w.0 e w.1)

module _ (s : Source) (A B : Type 0) (X : Meaning A) (Y : A → Meaning B) (fX fY : List ℕ) (lx : Lawful s X fX) (ly : (a : A) → Lawful s (Y a) fY) where
  pub bind_lawful : (f : List ℕ) → ((n : ℕ) → is_in fX n ≡ true → is_in f n ≡ true)
      → ((i : ℕ) (a : A) → X.Says s i i a → (n : ℕ) → is_in fY n ≡ true → is_in f n ≡ true) → Lawful s (X >>= Y) f
  unfolding ◌>>=◌
  bind_lawful f one other = record {
    empty = λ i. inl (lx.empty i);
    order = λ i j b. elim b [
      | inl q ↦ lx.order i j q
      | inr q ↦ omega (arith, lx.order i q.0 (lx.said i q.0 q.1 q.2), (ly q.1).order q.0 j q.3)
    ];
    shorten = λ i k j b h g. elim b [
      | inl q ↦ inl (lx.shorten i k j q h g)
      | inr q ↦ elim (cases_order k q.0) [
        | inl e ↦ inl (lx.shorten i k q.0 (lx.said i q.0 q.1 q.2) h (omega arith))
        | inr o ↦ elim o [
          | inl t ↦ inl (lx.shorten i k q.0 (lx.said i q.0 q.1 q.2) h (omega arith))
          | inr t ↦ inr (q.0, q.1, q.2, (ly q.1).shorten q.0 k j q.3 (omega arith) g)
        ]
      ]
    ];
    said = λ i j b p. inr (p.0, p.1, p.2, (ly p.1).said p.0 j b p.3);
    passed = λ w i j p. elim p [
      | inl q ↦ let y = lx.passed w i j q in (inl y.0, y.1)
      | inr q ↦ let y = (ly q.1).passed w q.0 j q.3 in
          (inr (q.0, q.1, q.2, y.0), omega (arith, lx.order i q.0 (lx.said i q.0 q.1 q.2), y.1))
    ];
    bound = λ i j b h. elim b [
      | inl q ↦ lx.bound i j q h
      | inr q ↦ elim (eq-or-lt_of_le ((ly q.1).order q.0 j q.3)) [
        | inl e ↦ lx.bound i j (subst (λ (n : ℕ). X.Begins s i n) e (lx.said i q.0 q.1 q.2)) h
        | inr g ↦ (ly q.1).bound q.0 j q.3 g
      ]
    ];
    starts = λ i j b h. elim b [
      | inl q ↦ one (code_at s i) (lx.starts i j q h)
      | inr q ↦ elim (eq-or-lt_of_le (lx.order i q.0 (lx.said i q.0 q.1 q.2))) [
        | inl e ↦
            other i q.1 (subst (λ (n : ℕ). X.Says s i n q.1) (sym e) q.2) (code_at s i)
            ((ly q.1).starts i j (subst (λ (n : ℕ). (Y q.1).Begins s n j) (sym e) q.3) h)
        | inr g ↦ one (code_at s i) (lx.starts i q.0 (lx.said i q.0 q.1 q.2) g)
      ]
    ];
  }

-- a second meaning that is never empty decides alone how the whole goes on
abbrev pub joint : Bool → List ℕ → List ℕ → List ℕ
joint g cX cY = cond g cY (cX ++ cY)

continues : (s : Source) {A B : Type 0} (Y : A → Meaning B) (cX cY : List ℕ) (g : Bool)
    → (g ≡ true → (a : A) (i j : ℕ) (b : B) → (Y a).Says s i j b → i < j) → Continues s Y cX cY (joint g cX cY)
continues s Y cX cY true grows = record {
  left = λ k a b p n h. let y = grows refl a k k b p in absurd (omega arith);
  right = λ n h. h;
}
continues s Y cX cY false grows = record { left = λ k a b p n h. in_left cX cY n h; right = λ n h. in_right cX cY n h }

-- a meaning with no empty sequence, and another after it
pub bind_reads : {s : Source} {A B : Type 0} {X : Meaning A} {Y : A → Meaning B} {g : Bool} {fX cX fY cY : List ℕ} {rx : Reader A} {ry : A → Reader B}
    → Reads s X true fX cX rx → ((a : A) → Reads s (Y a) g fY cY (ry a)) → are_apart fY cX ≡ true
    → Reads s (X >>= Y) true fX (joint g cX cY) (read_then rx ry)
unfolding ◌>>=◌ read_then
bind_reads {s} {A} {B} {X} {Y} {g} {fX} {cX} {fY} {cY} {rx} {ry} x y split = record {
  lawful =
      bind_lawful s A B X Y fX fY x.lawful (λ a. (y a).lawful) fX (λ n h. h)
      (λ i a p n h. let l = x.growing refl i i a p in absurd (omega arith));
  growing = λ _ i j b p.
      let l = x.growing refl i p.0 p.1 p.2 in
      let o = (y p.1).lawful.order p.0 j ((y p.1).lawful.said p.0 j b p.3) in
      omega arith;
  reads = λ i.
      bind_outcome s A B X Y fX cX fY cY (joint g cX cY) x.lawful (λ a. (y a).lawful) split
      (continues s Y cX cY g (λ e a. (y a).growing e)) i (rx i) ry (x.reads i) (λ a j d. (y a).reads j);
}

-- the same, where the first may be empty
pub bind_reads_maybe : {s : Source} {A B : Type 0} {X : Meaning A} {Y : A → Meaning B} {g h : Bool} {fX cX fY cY : List ℕ} {rx : Reader A} {ry : A → Reader B}
    → Reads s X g fX cX rx → ((a : A) → Reads s (Y a) h fY cY (ry a)) → are_apart fY cX ≡ true
    → Reads s (X >>= Y) h (fX ++ fY) (joint h cX cY) (read_then rx ry)
unfolding ◌>>=◌ read_then
bind_reads_maybe {s} {A} {B} {X} {Y} {g} {h} {fX} {cX} {fY} {cY} {rx} {ry} x y split = record {
  lawful =
      bind_lawful s A B X Y fX fY x.lawful (λ a. (y a).lawful) (fX ++ fY) (in_left fX fY) (λ i a p n t. in_right fX fY n t);
  growing = λ e i j b p.
      let l = (y p.1).growing e p.0 j b p.3 in
      let o = x.lawful.order i p.0 (x.lawful.said i p.0 p.1 p.2) in
      omega arith;
  reads = λ i.
      bind_outcome s A B X Y fX cX fY cY (joint h cX cY) x.lawful (λ a. (y a).lawful) split
      (continues s Y cX cY h (λ e a. (y a).growing e)) i (rx i) ry (x.reads i) (λ a j d. (y a).reads j);
}

pub gives_reads : {s : Source} {A : Type 0} (a : A) → Reads s (gives a) false [] [] (λ i. Ok (a, i))
unfolding gives
gives_reads {s} {A} a = record {
  lawful = record {
    empty = λ i. refl;
    order = λ i j b. omega arith;
    shorten = λ i k j b h g. omega arith;
    said = λ i j b p. p.0;
    passed = λ w i j p. absurd p;
    bound = λ i j b h. absurd (omega arith);
    starts = λ i j b h. absurd (omega arith);
  };
  growing = λ e i j b p. cc;
  reads = λ i. record {
    begun = record {
      begins = refl;
      clean = λ w k h p. p;
      shorter = λ k b h p. absurd (omega (arith, p.0));
    };
    says = (refl, refl);
    only = λ b p. p.1;
    stops = λ b. omega arith;
  };
}
