-- Moves that take one letter out of a list.
use Rattle.std.proofs.Common.{◌≡◌, ◌==◌, ◌↔◌, inl, inr, ℕ, zero, suc, ◌+◌, ◌-◌, ◌<◌, Bool, true, false, List, [], ◌∷◌, ◌++◌, length, refl, ap, sym, subst, ◌∙◌, ◌&&◌, not, arith, get_or, take, drop, Decides, IsTrue, append_assoc}
use Rattle.std.specs.List.{Contains, list_any}
use Rattle.std.proofs.lemmas.Bool.{cases_Bool, and_parts, and_from, or_cases, or_left, or_right}
use Rattle.std.proofs.Math.Seq.{take-append_seam, drop-append-add}
use Rattle.std.proofs.lemmas.List.{take_more}
use Rattle.protocol_model.specs.Moves.{is_in, IsCut, IsLoss}
use Rattle.protocol_model.proofs.ForCallers.{cut_is_loss}
use Rattle.protocol_moves.specs.Results.{AreExactly}
use Rattle.protocol_moves.specs.private.Gathering.{gathered, begins_run, cut_at}
use Rattle.protocol_moves.proofs.Gathered.{gathered_to, gathered_from, alone_to, alone_from}
use Rattle.protocol_moves.proofs.EndMove.{eq_of, head_of, tail_of, never}
use Rattle.protocol_moves.proofs.Lists.{drop_more}
use Rattle.protocol_moves.proofs.OneMove.{split_at, get_seam, length_seam}

-- whether one list is the other without a letter of the set

same_first_to : (letters : List ℕ) (x : ℕ) (old new : List ℕ) (a : ℕ) (before after : List ℕ) → IsTrue (is_in letters a) →
    x ∷ old ≡ before ++ a ∷ after → x ∷ new ≡ before ++ after → IsLoss letters old new
same_first_to letters x old new a [] after l w b =
    let is : a ≡ x = sym (head_of x a old after w) in
    record {
      letter = x;
      listed = subst (λ z. IsTrue (is_in letters z)) is l;
      cut = record { before = []; after = new; was = tail_of x a old after w ∙ sym b; becomes = refl };
    }
same_first_to letters x old new a (y ∷ before) after l w b =
    record {
      letter = a;
      listed = l;
      cut = record {
        before = before;
        after = after;
        was = tail_of x y old (before ++ a ∷ after) w;
        becomes = tail_of x y new (before ++ after) b;
      };
    }

-- a common first letter may be left out
same_first : (letters : List ℕ) (x : ℕ) (old new : List ℕ) → IsLoss letters (x ∷ old) (x ∷ new) ↔ IsLoss letters old new
same_first letters x old new = (
  λ m. same_first_to letters x old new m.letter m.cut.before m.cut.after m.listed m.cut.was m.cut.becomes,
  λ m. record {
    letter = m.letter;
    listed = m.listed;
    cut = record {
      before = x ∷ m.cut.before;
      after = m.cut.after;
      was = ap (λ zs. x ∷ zs) m.cut.was;
      becomes = ap (λ zs. x ∷ zs) m.cut.becomes;
    };
  },
)

first_goes : (letters : List ℕ) (x : ℕ) (rest kept : List ℕ) → ((below : List ℕ) → kept ≡ x ∷ below → ⊥) → (a : ℕ) (before after : List ℕ) →
    IsTrue (is_in letters a) → x ∷ rest ≡ before ++ a ∷ after → kept ≡ before ++ after → IsTrue (is_in letters x) × (rest ≡ kept)
first_goes letters x rest kept h a [] after l w b =
    (subst (λ z. IsTrue (is_in letters z)) (sym (head_of x a rest after w)) l, tail_of x a rest after w ∙ sym b)
first_goes letters x rest kept h a (y ∷ before) after l w b =
    absurd (h (before ++ after) (b ∙ ap (λ z. z ∷ (before ++ after)) (sym (head_of x y rest (before ++ a ∷ after) w))))

-- where the shorter list does not begin with the first letter of the longer one, this letter is the one that is missing
loss_here : (letters : List ℕ) (x : ℕ) (rest kept : List ℕ) (e : Bool) → ((below : List ℕ) → kept ≡ x ∷ below → ⊥) → Decides e (rest ≡ kept) →
    ((is_in letters x && e) ≡ true) ↔ IsLoss letters (x ∷ rest) kept
loss_here letters x rest kept e h w = (
  λ t.
      let parts = and_parts (is_in letters x) e t in
      record { letter = x; listed = parts.0; cut = record { before = []; after = kept; was = ap (λ zs. x ∷ zs) (w.0 parts.1); becomes = refl } },
  λ m.
      let both = first_goes letters x rest kept h m.letter m.cut.before m.cut.after m.listed m.cut.was m.cut.becomes in
      and_from (is_in letters x) e both.0 (w.1 both.1),
)

nothing_lost : (letters new : List ℕ) → IsLoss letters [] new → ⊥
nothing_lost letters new m = none m.cut.before m.cut.was
  where
    none : (before : List ℕ) → [] ≡ before ++ m.letter ∷ m.cut.after → ⊥
    none [] e = cc
    none (x ∷ before) e = cc

-- what is left of two lists, where one loss is as good as the other

pub loss_goes_on : (letters : List ℕ) (x : ℕ) (left kept rest others : List ℕ) (P : Type 0) → left ≡ x ∷ rest → kept ≡ x ∷ others →
    IsLoss letters left kept ↔ P → IsLoss letters rest others ↔ P
loss_goes_on letters x left kept rest others P l k same =
    let here = subst (λ xs. IsLoss letters xs (x ∷ others) ↔ P) l (subst (λ xs. IsLoss letters left xs ↔ P) k same) in
    let first = same_first letters x rest others in
    (λ m. here.0 (first.1 m), λ p. first.0 (here.1 p))

pub loss_stops : (letters : List ℕ) (x : ℕ) (left kept rest : List ℕ) (e : Bool) (P : Type 0) → left ≡ x ∷ rest →
    ((below : List ℕ) → kept ≡ x ∷ below → ⊥) → Decides e (rest ≡ kept) → IsLoss letters left kept ↔ P →
    ((is_in letters x && e) ≡ true) ↔ P
loss_stops letters x left kept rest e P l h w same =
    let here = subst (λ xs. IsLoss letters xs kept ↔ P) l same in
    let only = loss_here letters x rest kept e h w in
    (λ t. here.0 (only.0 t), λ p. only.1 (here.1 p))

pub loss_ends : (letters left kept : List ℕ) (P : Type 0) → left ≡ [] → IsLoss letters left kept ↔ P → (false ≡ true) ↔ P
loss_ends letters left kept P l same =
    never (λ p. nothing_lost letters kept (subst (λ xs. IsLoss letters xs kept) l (same.1 p)))

-- whether some letter can be lost

any_of : (letters : List ℕ) (list : List ℕ) → list_any (is_in letters) list ≡ true → (new : List ℕ) × IsLoss letters list new
any_of letters [] h = cc
any_of letters (x ∷ list) h =
    elim (or_cases (is_in letters x) (list_any (is_in letters) list) h) [
      | inl here ↦ (list, record { letter = x; listed = here; cut = record { before = []; after = list; was = refl; becomes = refl } })
      | inr later ↦ let m = any_of letters list later in (x ∷ m.0, (same_first letters x list m.0).1 m.1)
    ]

any_from : (letters : List ℕ) (a : ℕ) (before after : List ℕ) → IsTrue (is_in letters a) → list_any (is_in letters) (before ++ a ∷ after) ≡ true
any_from letters a [] after l = or_left (is_in letters a) (list_any (is_in letters) after) l
any_from letters a (x ∷ before) after l =
    or_right (is_in letters x) (list_any (is_in letters) (before ++ a ∷ after)) (any_from letters a before after l)

pub loss_enabled : (letters list : List ℕ) → (list_any (is_in letters) list ≡ true) ↔ ((new : List ℕ) × IsLoss letters list new)
loss_enabled letters list = (
  any_of letters list,
  λ m. subst (λ l. list_any (is_in letters) l ≡ true) (sym m.1.cut.was) (any_from letters m.1.letter m.1.cut.before m.1.cut.after m.1.listed),
)

pub cut_enabled : (a : ℕ) (list : List ℕ) → (list_any (is_in (a ∷ [])) list ≡ true) ↔ ((new : List ℕ) × IsCut a list new)
cut_enabled a list = (
  λ h. let m = (loss_enabled (a ∷ []) list).0 h in (m.0, (cut_is_loss a list m.0).1 m.1),
  λ m. (loss_enabled (a ∷ []) list).1 (m.0, (cut_is_loss a list m.0).0 m.1),
)

-- the lists without a letter of the set

cut_to : (letters list new : List ℕ) (i : ℕ) → i < length list → Contains (cut_at letters list i) new → IsLoss letters list new
cut_to letters list new i h c =
    let m = alone_to (is_in letters (get_or list i 0) && begins_run list i) (take i list ++ drop (i + 1) list) new c in
    record {
      letter = get_or list i 0;
      listed = (and_parts (is_in letters (get_or list i 0)) (begins_run list i) m.0).0;
      cut = record { before = take i list; after = drop (i + 1) list; was = split_at list i h; becomes = m.1 };
    }

-- a position whose letter leaves the list, and which is the first of its run
record IsFirst (a : ℕ) (list new : List ℕ) : Type 0 where
  place : ℕ
  within : place < length list
  letter : get_or list place 0 ≡ a
  first : begins_run list place ≡ true
  without : new ≡ take place list ++ drop (place + 1) list

-- two neighbours with one letter give the same list
same_without : (list : List ℕ) (j : ℕ) → j + 1 < length list → get_or list j 0 ≡ get_or list (j + 1) 0 →
    take (j + 1) list ++ drop (j + 1 + 1) list ≡ take j list ++ drop (j + 1) list
same_without list j h s =
    ap (λ xs. xs ++ drop (j + 1 + 1) list) (take_more list j 0 (omega (arith, h)))
    ∙ append_assoc (take j list) (get_or list j 0 ∷ []) (drop (j + 1 + 1) list)
    ∙ ap (λ x. take j list ++ x ∷ drop (j + 1 + 1) list) s
    ∙ ap (λ xs. take j list ++ xs) (sym (drop_more list (j + 1) 0 h))

run_begins : (list : List ℕ) (j : ℕ) → (get_or list j 0 == get_or list (j + 1) 0) ≡ false → begins_run list (j + 1) ≡ true
run_begins list j s =
    let back : j + 1 - 1 ≡ j = omega arith in
    or_right ((j + 1) == 0) (not (get_or list (j + 1 - 1) 0 == get_or list (j + 1) 0))
    (subst (λ i. not (get_or list i 0 == get_or list (j + 1) 0) ≡ true) (sym back) (ap not s))

first_of : (a : ℕ) (list new : List ℕ) (k : ℕ) → k < length list → get_or list k 0 ≡ a → new ≡ take k list ++ drop (k + 1) list →
    IsFirst a list new
first_of a list new zero h l e = record { place = 0; within = h; letter = l; first = refl; without = e }
first_of a list new (suc j) h l e =
    let is : suc j ≡ j + 1 = omega arith in
    let within : j + 1 < length list = omega (arith, h) in
    let letter : get_or list (j + 1) 0 ≡ a = subst (λ i. get_or list i 0 ≡ a) is l in
    let without : new ≡ take (j + 1) list ++ drop (j + 1 + 1) list = subst (λ i. new ≡ take i list ++ drop (i + 1) list) is e in
    elim (cases_Bool (get_or list j 0 == get_or list (j + 1) 0)) [
      | inl s ↦
          let same : get_or list j 0 ≡ get_or list (j + 1) 0 = eq_of (get_or list j 0) (get_or list (j + 1) 0) s in
          first_of a list new j (omega (arith, within)) (same ∙ letter) (without ∙ same_without list j within same)
      | inr s ↦ record { place = j + 1; within = within; letter = letter; first = run_begins list j s; without = without }
    ]

first_cut : (a : ℕ) (list new : List ℕ) → IsCut a list new → IsFirst a list new
first_cut a list new m =
    let k = length m.before in
    let whole = m.before ++ a ∷ m.after in
    first_of a list new k
    (subst (λ l. k < length l) (sym m.was) (length_seam m.before m.after a))
    (subst (λ l. get_or l k 0 ≡ a) (sym m.was) (get_seam m.before m.after a))
    (m.becomes
    ∙ sym (subst (λ l. take k l ++ drop (k + 1) l ≡ m.before ++ m.after) (sym m.was)
    (ap (λ xs. xs ++ drop (k + 1) whole) (take-append_seam m.before (a ∷ m.after))
    ∙ ap (λ xs. m.before ++ xs) (drop-append-add m.before (a ∷ m.after) 1))))

cut_from : (letters list new : List ℕ) → IsLoss letters list new → Contains (gathered (cut_at letters list) (length list)) new
cut_from letters list new m =
    let f = first_cut m.letter list new m.cut in
    let listed : is_in letters (get_or list f.place 0) ≡ true = subst (λ x. IsTrue (is_in letters x)) (sym f.letter) m.listed in
    gathered_from (cut_at letters list) (length list) new f.place f.within
    (alone_from (is_in letters (get_or list f.place 0) && begins_run list f.place) (take f.place list ++ drop (f.place + 1) list) new
    (and_from (is_in letters (get_or list f.place 0)) (begins_run list f.place) listed f.first) f.without)

pub loss_exactly : (letters list : List ℕ) (lists : List (List ℕ)) → lists ≡ gathered (cut_at letters list) (length list) →
    AreExactly (IsLoss letters list) lists
loss_exactly letters list lists e =
    record {
      each = λ new. (
        λ c.
            let m = gathered_to (cut_at letters list) (length list) new (subst (λ l. Contains l new) e c) in
            cut_to letters list new m.place m.within m.given,
        λ m. subst (λ l. Contains l new) (sym e) (cut_from letters list new m),
      );
    }

pub cut_exactly : (a : ℕ) (list : List ℕ) (lists : List (List ℕ)) → AreExactly (IsLoss (a ∷ []) list) lists → AreExactly (IsCut a list) lists
cut_exactly a list lists m =
    record { each = λ new. (λ c. (cut_is_loss a list new).1 ((m.each new).0 c), λ k. (m.each new).1 ((cut_is_loss a list new).0 k)) }
