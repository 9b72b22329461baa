-- Where the next symbol always tells how to go on, reading a grammar answers what the grammar says, and else its first fault.
use Rattle.std.proofs.Common.{◌≡◌, ℕ, ◌-◌, ◌<◌, Bool, true, false, not, cond, ◌&&◌, ◌||◌, eqb, List, [], ◌∷◌, ◌++◌, refl, sym, ap, subst, ◌∙◌, inl, inr, ◌⊎◌, arith}
use Rattle.std.proofs.lemmas.Bool.{ltb-true, ltb-false, not-true, or_cases, or_parts}
use Rattle.protocol_lexer.specs.declared.Token.{Token}
use Rattle.forms.specs.declared.name.TheConstants.{MAX_NAME_BYTES}
use Rattle.forms.specs.declared.symbol.Symbol.{Symbol}
use Rattle.forms.specs.declared.symbol.Symbol.TheVariants.{Unreserved, Reserved, Sign}
use Rattle.forms.specs.declared.fault.What.{What}
use Rattle.forms.specs.Symbol.{Source}
use Rattle.forms.specs.Grammar.{Grammar, sign, name, one_of, gives, ◌>>=◌, ◌or◌, optional, many_by, item, only, IsAt}
use Rattle.forms.specs.Shape.{Shape, one, word, listed, none, after, either, perhaps, often, limited, allowed, HasShape, grows, first, more, is_in, are_apart, is_name, is_led, is_plain, is_told, code, code_at, next_is}
use Rattle.forms.specs.Reading.{read, begins, is_long, is_long_at, is_too_long, read_then}
use Rattle.forms.proofs.Meaning.{Meaning, meaning, token}
use Rattle.forms.proofs.Meaning as F
use Rattle.forms.proofs.Sets.{in_one, in_left, in_right}
use Rattle.forms.proofs.Laws.{Lawful, Reads, bind_reads, bind_reads_maybe, gives_reads, joint}
use Rattle.forms.proofs.TokenLaws.{sign_reads, name_reads, one_of_reads, found, is_next, code_is, one_token, not_zero}
use Rattle.forms.proofs.Repeats.{Tested, Opens, or_reads, optional_reads, item_reads, many_reads, opens_bind, opens_or, only_reads, opens_only, second_false}

both : (b d : Bool) → (b && d) ≡ true → (b ≡ true) × (d ≡ true)
both true d h = (refl, h)
both false d h = absurd (let g : false ≡ true = h in cc)

as_set : (b : Bool) → b ≡ cond b true false
as_set true = refl
as_set false = refl

append_step : (b z w d : Bool) → z ≡ (w || d) → cond b true z ≡ (cond b true w || d)
append_step true z w d e = refl
append_step false z w d e = e

append_in : (xs ys : List ℕ) (n : ℕ) → is_in (xs ++ ys) n ≡ (is_in xs n || is_in ys n)
append_in [] ys n = refl
append_in (x ∷ xs) ys n = append_step (eqb n x) (is_in (xs ++ ys) n) (is_in xs n) (is_in ys n) (append_in xs ys n)

-- no symbol has the number 0
lacks_both : (xs ys : List ℕ) → is_in xs 0 ≡ false → is_in ys 0 ≡ false → is_in (xs ++ ys) 0 ≡ false
lacks_both xs ys e h = append_in xs ys 0 ∙ ap (λ (z : Bool). z || is_in ys 0) e ∙ h

lacks_if : (b : Bool) (xs ys : List ℕ) → is_in xs 0 ≡ false → is_in ys 0 ≡ false → is_in (cond b xs ys) 0 ≡ false
lacks_if true xs ys e h = e
lacks_if false xs ys e h = h

lacks_one : (x : Symbol) → is_in (code x ∷ []) 0 ≡ false
lacks_one x = sym (as_set (eqb 0 (code x))) ∙ sym (not_zero x (eqb 0 (code x)) refl)

pub first_lacks : (p : Shape) → is_in (first p) 0 ≡ false
first_lacks (one x) = lacks_one x
first_lacks word = lacks_one Unreserved
first_lacks listed = lacks_one Unreserved
first_lacks none = refl
first_lacks (after p q) =
    lacks_if (grows p) (first p) (first p ++ first q) (first_lacks p) (lacks_both (first p) (first q) (first_lacks p) (first_lacks q))
first_lacks (either p q) = lacks_both (first p) (first q) (first_lacks p) (first_lacks q)
first_lacks (perhaps p) = first_lacks p
first_lacks (often p) = first_lacks p
first_lacks (limited p) = first_lacks p
first_lacks (allowed p) = first_lacks p

pub more_lacks : (p : Shape) → is_in (more p) 0 ≡ false
more_lacks (one x) = refl
more_lacks word = refl
more_lacks listed = refl
more_lacks none = refl
more_lacks (after p q) =
    lacks_if (grows q) (more q) (more p ++ more q) (more_lacks q) (lacks_both (more p) (more q) (more_lacks p) (more_lacks q))
more_lacks (either p q) = lacks_both (more p) (more q) (more_lacks p) (more_lacks q)
more_lacks (perhaps p) = lacks_both (more p) (first p) (more_lacks p) (first_lacks p)
more_lacks (often p) = lacks_both (more p) (first p) (more_lacks p) (first_lacks p)
more_lacks (limited p) = more_lacks p
more_lacks (allowed p) = more_lacks p

-- how a first token is tested
token_tested : (s : Source) {A : Type 0} (X : Meaning A) (x : Symbol) → ((i k : ℕ) → X.Begins s i k → (k ≡ i) ⊎ ((t : Token) × IsAt s i x t))
    → Tested s X (code x ∷ []) (next_is s x)
token_tested s X x up = record {
  yes = λ i h. let t = found s x i h in in_one (code_at s i) (code x) (code_is s x i t.0 t.1);
  no = λ i h k b g. elim (up i k b) [
    | inl e ↦ omega (arith, e, g)
    | inr t ↦ let e : true ≡ false = sym (is_next s x i t.0 t.1) ∙ h in absurd cc
  ];
}

or_tested : {s : Source} {A : Type 0} {X Y : Meaning A} {fX fY : List ℕ} {t u : ℕ → Bool}
    → Tested s X fX t → Tested s Y fY u → Tested s (F.◌or◌ X Y) (fX ++ fY) (λ i. t i || u i)
unfolding F.◌or◌
or_tested {s} {A} {X} {Y} {fX} {fY} {t} {u} x y = record {
  yes = λ i h. elim (or_cases (t i) (u i) h) [
    | inl e ↦ in_left fX fY (code_at s i) (x.yes i e)
    | inr e ↦ in_right fX fY (code_at s i) (y.yes i e)
  ];
  no = λ i h k b g. elim b [
    | inl q ↦ x.no i ((or_parts (t i) (u i) h).0) k q g
    | inr q ↦ y.no i ((or_parts (t i) (u i) h).1) k q g
  ];
}

bind_tested : {s : Source} {A B : Type 0} {X : Meaning A} (Y : A → Meaning B) {f : List ℕ} {t : ℕ → Bool} → Lawful s X f
    → ((i j : ℕ) (a : A) → X.Says s i j a → i < j) → Tested s X f t → Tested s (F.◌>>=◌ X Y) f t
unfolding F.◌>>=◌
bind_tested Y l grows x = record {
  yes = x.yes;
  no = λ i h k b g. elim b [
    | inl q ↦ x.no i h k q g
    | inr q ↦ x.no i h q.0 (l.said i q.0 q.1 q.2) (grows i q.0 q.1 q.2)
  ];
}

item_tested : {s : Source} {A : Type 0} {X : Meaning A} {f : List ℕ} {t : ℕ → Bool} (full : Bool) (what : What)
    → Tested s X f t → Tested s (F.item full what X) f t
unfolding F.item
item_tested full what x = record { yes = x.yes; no = x.no }

only_tested : {s : Source} {A : Type 0} {X : Meaning A} {f : List ℕ} {t : ℕ → Bool} (b : Bool) → Tested s X f t → Tested s (F.only b X) f (λ i. b && t i)
unfolding F.only
only_tested {s} {A} {X} {f} {t} b x = record {
  yes = λ i h. x.yes i ((both b (t i) h).1);
  no = λ i h k g m. elim g [
    | inl e ↦ omega (arith, e, m)
    | inr q ↦ x.no i (second_false b (t i) q.0 h) k q.1 m
  ];
}

-- the same, by another test
opens_by : {s : Source} {A : Type 0} {X : Meaning A} {t u : ℕ → Bool} → ((i : ℕ) → u i ≡ t i) → Opens s X t → Opens s X u
opens_by e o = record { opening = λ i h. o.opening i (sym (e i) ∙ h); silent = λ i h. o.silent i (sym (e i) ∙ h) }

spread : (a b c : Bool) → ((a || b) && c) ≡ ((a && c) || (b && c))
spread true true true = refl
spread true true false = refl
spread true false true = refl
spread true false false = refl
spread false b c = refl

grouped : (a b c : Bool) → ((a && b) && c) ≡ (a && (b && c))
grouped true b c = refl
grouped false b c = refl

and_not : (b d : Bool) → b ≡ true → d ≡ false → (b && not d) ≡ true
and_not true false e h = refl
and_not true true e h = let g : true ≡ false = h in cc
and_not false d e h = let g : false ≡ true = e in cc

not_second : (b d : Bool) → b ≡ true → (b && not d) ≡ false → d ≡ true
not_second true true e h = refl
not_second true false e h = let g : true ≡ false = h in cc
not_second false d e h = let g : false ≡ true = e in cc

-- no token but a name is too long
is_short : (s : Source) (i : ℕ) (x : Symbol) (t : Token) → not (is_name x) ≡ true → IsAt s i x t → is_long_at s i ≡ false
unfolding is_long_at
is_short s i Unreserved t h e = absurd (let g : false ≡ true = h in cc)
is_short s i (Reserved k) t h e = ap is_long e
is_short s i (Sign k) t h e = ap is_long e

-- how a token opens an item
opens_sign : (s : Source) (x : Symbol) → not (is_name x) ≡ true → Opens s (F.sign x) (λ i. next_is s x i && not (is_long_at s i))
unfolding token
opens_sign s x other = record {
  opening = λ i h. let t = found s x i ((both (next_is s x i) (not (is_long_at s i)) h).0) in (inr (refl, t), λ v p. p);
  silent = λ i h b g. elim b [
    | inl e ↦ omega (arith, e)
    | inr p ↦
        let here = and_not (next_is s x i) (is_long_at s i) (is_next s x i p.1.0 p.1.1) (is_short s i x p.1.0 other p.1.1) in
        let e : true ≡ false = sym here ∙ h in
        absurd cc
  ];
}

opens_name : (s : Source) → Opens s F.name (λ i. next_is s Unreserved i && not (is_long_at s i))
unfolding token is_long_at
opens_name s = record {
  opening = λ i h.
      let n = both (next_is s Unreserved i) (not (is_long_at s i)) h in
      let t = found s Unreserved i n.0 in
      let short : is_too_long t.0 ≡ false = sym (ap is_long t.1) ∙ not-true (is_long_at s i) n.1 in (
        inr (refl, t),
        λ v p.
            let same = one_token s i Unreserved Unreserved t.0 p.1.0 t.1 p.1.1 in
            let long : MAX_NAME_BYTES < t.0.end - t.0.start = subst (λ (u : Token). MAX_NAME_BYTES < u.end - u.start) (sym same) p.1.2 in
            omega (arith, long, ltb-false MAX_NAME_BYTES (t.0.end - t.0.start) short),
      );
  silent = λ i h b g. elim b [
    | inl e ↦ omega (arith, e)
    | inr p ↦
        let e : is_too_long p.1.0 ≡ true =
        sym (ap is_long p.1.1) ∙ not_second (next_is s Unreserved i) (is_long_at s i) (is_next s Unreserved i p.1.0 p.1.1) h in
        g (refl, (p.1.0, p.1.1, ltb-true MAX_NAME_BYTES (p.1.0.end - p.1.0.start) e, refl))
  ];
}

-- what is proved of each grammar, at its shape
pub record Law (s : Source) {A : Type 0} (g : Grammar A) (p : Shape) : Type 0 where
  pub reads : Reads s (meaning g) (grows p) (first p) (more p) (read s g)
  pub tested : is_led p ≡ true → Tested s (meaning g) (first p) (begins g s)
  pub opening : is_plain p ≡ true → Opens s (meaning g) (λ i. begins g s i && not (is_long_at s i))

never : {P : Type 0} → false ≡ true → P
never e = absurd cc

sign_law : (s : Source) (x : Symbol) → Law s (sign x) (one x)
unfolding token
sign_law s x = record {
  reads = sign_reads s x;
  tested = λ _. token_tested s (F.sign x) x (λ i k b. elim b [ inl e ↦ inl e | inr p ↦ inr p.1 ]);
  opening = opens_sign s x;
}

name_law : (s : Source) → Law s name word
unfolding token
name_law s = record {
  reads = name_reads s;
  tested = λ _. token_tested s F.name Unreserved (λ i k b. elim b [ inl e ↦ inl e | inr p ↦ inr p.1 ]);
  opening = λ _. opens_name s;
}

one_of_law : (s : Source) (names : List (List ℕ)) → Law s (one_of names) listed
unfolding F.one_of
one_of_law s names = record {
  reads = one_of_reads s names;
  tested = λ _. token_tested s (F.one_of names) Unreserved (λ i k b. elim b [ inl e ↦ inl e | inr p ↦ inr (p.1.0, p.1.1) ]);
  opening = λ e. never e;
}

gives_law : (s : Source) {A : Type 0} (a : A) → Law s (gives a) none
unfolding F.gives
gives_law s a = record { reads = gives_reads a; tested = λ e. never e; opening = λ e. never e }

module _ (s : Source) {A B : Type 0} (x : Grammar A) (y : A → Grammar B) (p q : Shape) (lx : Law s x p) (ly : (a : A) → Law s (y a) q)
    (split : are_apart (first q) (more p) ≡ true) where
  bind_by : (b : Bool) → grows p ≡ b
      → Reads s (F.◌>>=◌ (meaning x) (λ a. meaning (y a))) (b || grows q) (cond b (first p) (first p ++ first q)) (joint (grows q) (more p) (more q))
      (read_then (read s x) (λ a. read s (y a)))
  bind_by true e = bind_reads (subst (λ (b : Bool). Reads s (meaning x) b (first p) (more p) (read s x)) e lx.reads) (λ a. (ly a).reads) split
  bind_by false e = bind_reads_maybe lx.reads (λ a. (ly a).reads) split

  bind_law : Law s (x >>= y) (after p q)
  unfolding F.◌>>=◌
  bind_law = record {
    reads = bind_by (grows p) refl;
    tested = λ e.
        let h = both (grows p) (is_led p) e in
        subst (λ (b : Bool). Tested s (F.◌>>=◌ (meaning x) (λ a. meaning (y a))) (cond b (first p) (first p ++ first q)) (begins x s)) (sym h.0)
        (bind_tested (λ a. meaning (y a)) lx.reads.lawful (lx.reads.growing h.0) (lx.tested h.1));
    opening = λ e.
        let h = both (grows p) (is_plain p) e in
        opens_bind lx.reads.lawful (lx.reads.growing h.0) (λ a. (ly a).reads.lawful) (lx.opening h.1);
  }

module _ (s : Source) {A : Type 0} (x : Grammar A) (p : Shape) (lx : Law s x p) (gx : grows p ≡ true) where
  whole : Reads s (meaning x) true (first p) (more p) (read s x)
  whole = subst (λ (b : Bool). Reads s (meaning x) b (first p) (more p) (read s x)) gx lx.reads

  optional_law : (a : A) → is_led p ≡ true → Law s (optional a x) (perhaps p)
  unfolding F.optional
  optional_law a led = record { reads = optional_reads a whole (lx.tested led); tested = λ e. never e; opening = λ e. never e }

  item_law : (full : Bool) (what : What) → is_plain p ≡ true → Law s (item full what x) (limited p)
  unfolding F.item
  item_law full what e = record {
    reads = item_reads (begins x s) full what whole (lx.opening e);
    tested = λ h. item_tested full what (lx.tested h);
    opening = λ h. never h;
  }

  only_law : (b : Bool) → Law s (only b x) (allowed p)
  unfolding F.only
  only_law b = record {
    reads = only_reads b whole;
    tested = λ e. only_tested b (lx.tested e);
    opening = λ e. opens_by (λ i. grouped b (begins x s i) (not (is_long_at s i))) (opens_only b (lx.opening e));
  }

module _ (s : Source) {A : Type 0} (x y : Grammar A) (p q : Shape) (lx : Law s x p) (ly : Law s y q) (gx : grows p ≡ true) (gy : grows q ≡ true)
    (split : are_apart (first p) (first q) ≡ true) where
  or_law : is_led p ≡ true → Law s (x or y) (either p q)
  unfolding F.◌or◌
  or_law led =
      let left = whole s x p lx gx in
      let right = whole s y q ly gy in
      record {
        reads = or_reads left right (lx.tested led) split;
        tested = λ e. let h = both (is_led p) (is_led q) e in or_tested (lx.tested h.0) (ly.tested h.1);
        opening = λ e.
            let h = both (is_plain p) (is_plain q) e in
            opens_by (λ i. spread (begins x s i) (begins y s i) (not (is_long_at s i))) (opens_or left right split (lx.opening h.0) (ly.opening h.1));
      }

many_law : (s : Source) {A : Type 0} (x : List A → Grammar A) (p : Shape) → ((b : List A) → Law s (x b) p) → is_led p ≡ true → grows p ≡ true
    → are_apart (first p) (more p) ≡ true → Law s (many_by x) (often p)
unfolding F.many_by
many_law s x p lx led gx split = record {
  reads = many_reads (more p) (λ b. read s (x b)) (λ b. whole s (x b) p (lx b) gx) (λ b. (lx b).tested led) split;
  tested = λ e. never e;
  opening = λ e. never e;
}

-- The law of all grammars.
pub law : (s : Source) {A : Type 0} (g : Grammar A) (p : Shape) → HasShape g p → is_told p ≡ true → Law s g p
law s (sign x) (one y) h t = subst (λ (z : Symbol). Law s (sign x) (one z)) h (sign_law s x)
law s name word h t = name_law s
law s (one_of names) listed h t = one_of_law s names
law s (gives a) none h t = gives_law s a
law s (x >>= y) (after p q) h t =
    let k = both (is_told p) (is_told q && are_apart (first q) (more p)) t in
    let m = both (is_told q) (are_apart (first q) (more p)) k.1 in
    bind_law s x y p q (law s x p h.0 k.0) (λ a. law s (y a) q (h.1 a) m.0) m.1
law s (x or y) (either p q) h t =
    let k = both (is_told p) (is_told q && (is_led p && (grows p && (grows q && are_apart (first p) (first q))))) t in
    let m = both (is_told q) (is_led p && (grows p && (grows q && are_apart (first p) (first q)))) k.1 in
    let l = both (is_led p) (grows p && (grows q && are_apart (first p) (first q))) m.1 in
    let n = both (grows p) (grows q && are_apart (first p) (first q)) l.1 in
    let r = both (grows q) (are_apart (first p) (first q)) n.1 in
    or_law s x y p q (law s x p h.0 k.0) (law s y q h.1 m.0) n.0 r.0 r.1 l.0
law s (optional a x) (perhaps p) h t =
    let k = both (is_told p) (is_led p && grows p) t in
    let m = both (is_led p) (grows p) k.1 in
    optional_law s x p (law s x p h k.0) m.1 a m.0
law s (many_by x) (often p) h t =
    let k = both (is_told p) (is_led p && (grows p && are_apart (first p) (more p))) t in
    let l = both (is_led p) (grows p && are_apart (first p) (more p)) k.1 in
    let m = both (grows p) (are_apart (first p) (more p)) l.1 in
    many_law s x p (λ b. law s (x b) p (h b) k.0) l.0 m.0 m.1
law s (item full what x) (limited p) h t =
    let k = both (is_told p) (grows p && is_plain p) t in
    let m = both (grows p) (is_plain p) k.1 in
    item_law s x p (law s x p h k.0) m.0 full what m.1
law s (only b x) (allowed p) h t =
    let k = both (is_told p) (grows p) t in
    only_law s x p (law s x p h k.0) k.1 b
law s _ _ h t = absurd h
