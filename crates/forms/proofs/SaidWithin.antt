-- Tokens that are a sequence within the limits are read as that sequence.
use Rattle.std.proofs.Common.{◌≡◌, ◌<◌, ◌≤◌, ◌+◌, ◌-◌, ℕ, zero, suc, Bool, true, false, cond, List, [], ◌∷◌, ◌++◌, Ok, length, refl, sym, ap, subst, ◌∙◌, inl, inr, ◌⊎◌, arith, append_assoc, append-nil}
use Rattle.std.proofs.Math.Nat.{eq-or-lt_of_le}
use Rattle.std.proofs.lemmas.Bool.{le-ltb, and_parts}
use Rattle.protocol_lexer.specs.declared.Token.{Token}
use Rattle.forms.specs.declared.symbol.Symbol.TheVariants.{Unreserved}
use Rattle.forms.specs.Symbol.{Source}
use Rattle.forms.specs.Grammar.{Grammar, sign, name, one_of, gives, ◌>>=◌, ◌or◌, optional, many_by, item, only, Says, SaysMany, IsAt, IsWithin, IsNumber, name_of}
use Rattle.forms.specs.declared.name.TheConstants.{MAX_NAME_BYTES}
use Rattle.forms.specs.Shape.{Shape, one, word, listed, none, after, either, perhaps, often, limited, allowed, HasShape, IsUniform, shape, grows, first, more, is_led, is_in, is_told, are_apart, code_at}
use Rattle.forms.specs.Reading.{read, read_then, read_sign, begins, read_name, read_word, read_named, read_one_of, read_among, read_found, read_or, read_optional, read_item, read_only, read_many, read_all, is_too_long}
use Rattle.forms.proofs.Sets.{apart, in_left, in_right}
use Rattle.forms.proofs.TokenLaws.{is_next}
use Rattle.forms.proofs.Tells.{law, more_lacks}
use Rattle.forms.proofs.Repeats.{code_behind}
use Rattle.forms.proofs.Faults.{ok_says}

-- the span is a sequence of the form, says this, and no item of it is past a limit
abbrev pub SaysWithin : {A : Type 0} → Grammar A → Source → ℕ → ℕ → A → Type 0
SaysWithin (sign x) source i j a = (j ≡ i + 1) × ((t : Token) × IsAt source i x t × (a ≡ tt))
SaysWithin name source i j a =
    (j ≡ i + 1) × ((t : Token) × IsAt source i Unreserved t × (t.end - t.start ≤ MAX_NAME_BYTES) × (a ≡ name_of source.text t))
SaysWithin (one_of names) source i j a = (j ≡ i + 1) × ((t : Token) × IsAt source i Unreserved t × IsNumber names source.text t a)
SaysWithin (gives b) source i j a = (j ≡ i) × (a ≡ b)
SaysWithin (x >>= y) source i j b = (k : ℕ) × (a : _) × SaysWithin x source i k a × SaysWithin (y a) source k j b
SaysWithin (x or y) source i j a = SaysWithin x source i j a ⊎ SaysWithin y source i j a
SaysWithin (optional absent x) source i j a = ((j ≡ i) × (a ≡ absent)) ⊎ SaysWithin x source i j a
SaysWithin (many_by x) source i j values = SaysMany (λ before. SaysWithin (x before) source) [] i j values
SaysWithin (item full what x) source i j a = (full ≡ false) × SaysWithin x source i j a
SaysWithin (only may x) source i j a = (may ≡ true) × SaysWithin x source i j a

all_said : (s : Source) {A : Type 0} (x : List A → Grammar A) → ((before : List A) (i j : ℕ) (a : A) → SaysWithin (x before) s i j a → Says (x before) s i j a)
    → (values before : List A) (i j : ℕ) → SaysMany (λ b. SaysWithin (x b) s) before i j values → SaysMany (λ b. Says (x b) s) before i j values
all_said s x each [] before i j says = says
all_said s x each (a ∷ values) before i j (k, says, rest) = (k, each before i k a says, all_said s x each values (before ++ a ∷ []) k j rest)

said : (s : Source) {A : Type 0} (g : Grammar A) (i j : ℕ) (a : A) → SaysWithin g s i j a → Says g s i j a
said s (sign x) i j a w = w
said s name i j a (e, (t, at, short, is)) = (e, (t, at, is))
said s (one_of names) i j a w = w
said s (gives b) i j a w = w
said s (x >>= y) i j b (k, a, u, v) = (k, a, said s x i k a u, said s (y a) k j b v)
said s (x or y) i j a (inl w) = inl (said s x i j a w)
said s (x or y) i j a (inr w) = inr (said s y i j a w)
said s (optional absent x) i j a (inl w) = inl w
said s (optional absent x) i j a (inr w) = inr (said s x i j a w)
said s (many_by x) i j values w = all_said s x (λ before. said s (x before)) values [] i j w
said s (item full what x) i j a w = said s x i j a w.1
said s (only b x) i j a w = (w.0, said s x i j a w.1)

not_true : (b : Bool) → (b ≡ true → ⊥) → b ≡ false
not_true true h = absurd (h refl)
not_true false h = refl

not_false : (b : Bool) → (b ≡ false → ⊥) → b ≡ true
not_false true h = refl
not_false false h = absurd (h refl)

clash : (b : Bool) → b ≡ true → b ≡ false → ⊥
clash b h g = cc

-- the tokens that follow do not go on the first part
not_more : (xs ys : List ℕ) (g : Bool) (n : ℕ) → is_in (cond g ys (xs ++ ys)) n ≡ false → (is_in ys n ≡ false) × (g ≡ false → is_in xs n ≡ false)
not_more xs ys true n h = (h, λ e. absurd (clash true refl e))
not_more xs ys false n h = (
  not_true (is_in ys n) (λ e. clash (is_in (xs ++ ys) n) (in_right xs ys n e) h),
  λ _. not_true (is_in xs n) (λ e. clash (is_in (xs ++ ys) n) (in_left xs ys n e) h),
)

-- a sequence that is not empty begins with one of its first symbols
starts : (s : Source) {A : Type 0} (x : Grammar A) (p : Shape) → HasShape x p → is_told p ≡ true → (i j : ℕ) (a : A) → SaysWithin x s i j a → i < j
    → is_in (first p) (code_at s i) ≡ true
starts s x p h t i j a w g = let l = (law s x p h t).reads.lawful in l.starts i j (l.said i j a (said s x i j a w)) g

growing : (s : Source) {A : Type 0} (x : Grammar A) (p : Shape) → HasShape x p → is_told p ≡ true → grows p ≡ true → (i j : ℕ) (a : A)
    → SaysWithin x s i j a → i < j
growing s x p h t g i j a w = (law s x p h t).reads.growing g i j a (said s x i j a w)

-- the test of the reader, where a sequence that is not empty begins, and where one symbol stands with which none begins
begins_there : (s : Source) {A : Type 0} (x : Grammar A) (p : Shape) → HasShape x p → is_told p ≡ true → is_led p ≡ true → (i j : ℕ) (a : A)
    → SaysWithin x s i j a → i < j → begins x s i ≡ true
begins_there s x p h t l i j a w g =
    not_false (begins x s i)
    (λ none. let y = law s x p h t in (y.tested l).no i none j (y.reads.lawful.said i j a (said s x i j a w)) g)

begins_not : (s : Source) {A : Type 0} (x : Grammar A) (p : Shape) → HasShape x p → is_told p ≡ true → is_led p ≡ true → (i : ℕ)
    → (is_in (first p) (code_at s i) ≡ true → ⊥) → begins x s i ≡ false
begins_not s x p h t l i lacks = not_true (begins x s i) (λ yes. lacks (((law s x p h t).tested l).yes i yes))

word_read : (s : Source) (i : ℕ) (t : Token) → IsAt s i Unreserved t → t.end - t.start ≤ MAX_NAME_BYTES
    → read_name s i ≡ Ok (name_of s.text t, i + 1)
unfolding read_name
word_read s i t at short =
    let long : is_too_long t ≡ false = le-ltb MAX_NAME_BYTES (t.end - t.start) short in
    ap (λ o. read_named s (read_word s) o i) at ∙ rw long refl

number_read : (s : Source) (names : List (List ℕ)) (i : ℕ) (t : Token) (a : ℕ) → IsAt s i Unreserved t → IsNumber names s.text t a
    → read_one_of s names i ≡ Ok (a, i + 1)
unfolding read_one_of
number_read s names i t a at is = ap (λ o. read_named s (read_among s names) o i) at ∙ ap (λ o. read_found s o i) is

module _ (s : Source) {A : Type 0} (x : List A → Grammar A) (p : Shape) (h : (b : List A) → HasShape (x b) p) (t : is_told p ≡ true)
    (led : is_led p ≡ true) (g : grows p ≡ true) (split : are_apart (first p) (more p) ≡ true)
    (each : (before : List A) (i j : ℕ) (a : A) → SaysWithin (x before) s i j a → is_in (more p) (code_at s j) ≡ false → read s (x before) i ≡ Ok (a, j)) where
  -- what follows an item does not go it on
  behind : (values before : List A) (i j : ℕ) → SaysMany (λ b. SaysWithin (x b) s) before i j values → is_in (more p) (code_at s j) ≡ false
      → is_in (more p) (code_at s i) ≡ false
  behind [] before i j e stop = subst (λ (n : ℕ). is_in (more p) (code_at s n) ≡ false) e stop
  behind (a ∷ values) before i j (k, w, rest) stop =
      not_true (is_in (more p) (code_at s i))
      (λ m. apart (first p) (more p) (code_at s i) split (starts s (x before) p (h before) t i k a w (growing s (x before) p (h before) t g i k a w)) m)

  many_read : (n : ℕ) (values before : List A) (i j : ℕ) → length s.tokens ≤ i + n → SaysMany (λ b. SaysWithin (x b) s) before i j values
      → is_in (first p) (code_at s j) ≡ false → is_in (more p) (code_at s j) ≡ false
      → read_many n (λ b. begins (x b) s) (λ b. read s (x b)) before i ≡ Ok (before ++ values, j)
  unfolding read_many
  many_read zero [] before i j l e new stop = rw (append-nil before, e) refl
  many_read zero (a ∷ values) before i j l (k, w, rest) new stop =
      let y = (law s (x before) p (h before) t).reads in
      let longer = growing s (x before) p (h before) t g i k a w in
      let bound = y.lawful.bound i k (y.lawful.said i k a (said s (x before) i k a w)) longer in
      absurd (omega (arith, l, longer, bound))
  many_read (suc n) [] before i j l e new stop =
      let missing : begins (x before) s i ≡ false =
      begins_not s (x before) p (h before) t led i (λ y. clash _ y (subst (λ (n : ℕ). is_in (first p) (code_at s n) ≡ false) e new)) in
      rw (missing, append-nil before, e) refl
  many_read (suc n) (a ∷ values) before i j l (k, w, rest) new stop =
      let longer = growing s (x before) p (h before) t g i k a w in
      let there : begins (x before) s i ≡ true = begins_there s (x before) p (h before) t led i k a w longer in
      let here : read s (x before) i ≡ Ok (a, k) = each before i k a w (behind values (before ++ a ∷ []) k j rest stop) in
      let later = many_read n values (before ++ a ∷ []) k j (omega (arith, l, longer)) rest new stop in
      rw (there, here) (later ∙ ap (λ (l : List A). Ok (l, j)) (append_assoc before (a ∷ []) values))

-- the law of all grammars in which the next symbol tells how to go on
read_within : (s : Source) {A : Type 0} (g : Grammar A) (p : Shape) → HasShape g p → is_told p ≡ true → (i j : ℕ) (a : A) → SaysWithin g s i j a
    → is_in (more p) (code_at s j) ≡ false → read s g i ≡ Ok (a, j)
unfolding read_sign read_then read_or read_optional read_item read_only read_all
read_within s (sign x) (one y) h t i j a (e, (at, is, same)) stop = rw (is_next s x i at is, e) refl
read_within s name word h t i j a (e, (at, is, short, same)) stop = word_read s i at is short ∙ rw (same, e) refl
read_within s (one_of names) listed h t i j a (e, (token, at, is)) stop = number_read s names i token a at is ∙ ap (λ (n : ℕ). Ok (a, n)) (sym e)
read_within s (gives b) none h t i j a (e, same) stop = rw (same, e) refl
read_within s (x >>= y) (after p q) h t i j b (k, a, u, v) stop =
    let k1 = and_parts (is_told p) _ t in
    let k2 = and_parts (is_told q) _ k1.1 in
    let stay = not_more (more p) (more q) (grows q) (code_at s j) stop in
    let second = read_within s (y a) q (h.1 a) k2.0 k j b v stay.0 in
    let l = (law s (y a) q (h.1 a) k2.0).reads in
    let begun = l.lawful.said k j b (said s (y a) k j b v) in
    let still : is_in (more p) (code_at s k) ≡ false = elim (eq-or-lt_of_le (l.lawful.order k j begun)) [
      | inl e ↦ subst (λ (n : ℕ). is_in (more p) (code_at s n) ≡ false) (sym e)
          (stay.1 (not_true (grows q) (λ g. let m = growing s (y a) q (h.1 a) k2.0 g k j b v in omega (arith, m, e))))
      | inr m ↦ not_true (is_in (more p) (code_at s k)) (apart (first q) (more p) (code_at s k) k2.1 (l.lawful.starts k j begun m))
    ] in
    rw (read_within s x p h.0 k1.0 i k a u still) second
read_within s (x or y) (either p q) h t i j a (inl w) stop =
    let k1 = and_parts (is_told p) _ t in
    let k2 = and_parts (is_told q) _ k1.1 in
    let k3 = and_parts (is_led p) _ k2.1 in
    let k4 = and_parts (grows p) _ k3.1 in
    let there : begins x s i ≡ true = begins_there s x p h.0 k1.0 k3.0 i j a w (growing s x p h.0 k1.0 k4.0 i j a w) in
    rw there (read_within s x p h.0 k1.0 i j a w (not_true _ (λ e. clash _ (in_left (more p) (more q) (code_at s j) e) stop)))
read_within s (x or y) (either p q) h t i j a (inr w) stop =
    let k1 = and_parts (is_told p) _ t in
    let k2 = and_parts (is_told q) _ k1.1 in
    let k3 = and_parts (is_led p) _ k2.1 in
    let k4 = and_parts (grows p) _ k3.1 in
    let k5 = and_parts (grows q) _ k4.1 in
    let new = starts s y q h.1 k2.0 i j a w (growing s y q h.1 k2.0 k5.0 i j a w) in
    let missing : begins x s i ≡ false = begins_not s x p h.0 k1.0 k3.0 i (λ e. apart (first p) (first q) (code_at s i) k5.1 e new) in
    rw missing (read_within s y q h.1 k2.0 i j a w (not_true _ (λ e. clash _ (in_right (more p) (more q) (code_at s j) e) stop)))
read_within s (optional absent x) (perhaps p) h t i j a (inl (e, same)) stop =
    let k1 = and_parts (is_told p) _ t in
    let k2 = and_parts (is_led p) _ k1.1 in
    let stay : is_in (first p) (code_at s i) ≡ false =
    subst (λ (n : ℕ). is_in (first p) (code_at s n) ≡ false) e (not_true _ (λ e. clash _ (in_right (more p) (first p) (code_at s j) e) stop)) in
    let missing : begins x s i ≡ false = begins_not s x p h k1.0 k2.0 i (λ y. clash _ y stay) in
    rw (missing, same, e) refl
read_within s (optional absent x) (perhaps p) h t i j a (inr w) stop =
    let k1 = and_parts (is_told p) _ t in
    let k2 = and_parts (is_led p) _ k1.1 in
    let there : begins x s i ≡ true = begins_there s x p h k1.0 k2.0 i j a w (growing s x p h k1.0 k2.1 i j a w) in
    rw there (read_within s x p h k1.0 i j a w (not_true _ (λ e. clash _ (in_left (more p) (first p) (code_at s j) e) stop)))
read_within s (many_by x) (often p) h t i j values w stop =
    let k1 = and_parts (is_told p) _ t in
    let k2 = and_parts (is_led p) _ k1.1 in
    let k3 = and_parts (grows p) _ k2.1 in
    many_read s x p h k1.0 k2.0 k3.0 k3.1 (λ before i j a. read_within s (x before) p (h before) k1.0 i j a) (length s.tokens) values [] i j (omega arith) w
    (not_true _ (λ e. clash _ (in_right (more p) (first p) (code_at s j) e) stop))
    (not_true _ (λ e. clash _ (in_left (more p) (first p) (code_at s j) e) stop))
read_within s (item full what x) (limited p) h t i j a (has, w) stop = rw has (read_within s x p h (and_parts (is_told p) _ t).0 i j a w stop)
read_within s (only b x) (allowed p) h t i j a (may, w) stop = rw may (read_within s x p h (and_parts (is_told p) _ t).0 i j a w stop)
read_within s _ _ h t i j a w stop = absurd h

-- all tokens that are a sequence within the limits say its meaning within the limits
pub within_from_said : (s : Source) {A : Type 0} (g : Grammar A) → IsUniform g → is_told (shape g) ≡ true → (a : A)
    → SaysWithin g s 0 (length s.tokens) a → IsWithin g s a
within_from_said s g uniform told a w =
    let end : is_in (more (shape g)) (code_at s (length s.tokens)) ≡ false =
    ap (is_in (more (shape g))) (code_behind s (length s.tokens) (omega arith)) ∙ more_lacks (shape g) in
    (ok_says s g uniform told a (read_within s g (shape g) uniform told 0 (length s.tokens) a w end) a).1 refl
