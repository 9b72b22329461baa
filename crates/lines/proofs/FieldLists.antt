-- Parts with a separator between neighbours.
use Rattle.std.proofs.Common.{arith, length, ◌<◌, ◌≡◌, ℕ, List, [], ◌∷◌, ◌++◌, flat_map, refl, sym, subst, ap, ◌∙◌, inl, inr}
use Rattle.std.specs.List.{AllByRecursion}
use Rattle.std.proofs.lemmas.List.{append_assoc, append-nil, length-append}
use Rattle.sequence.proofs.ForCallers.{cut_unique, no_cut}
use Rattle.lines.specs.Bytes.{Lacks, IsCutAt}
use Rattle.lines.specs.Grammar.{SaysFields}

-- there is one cut
pub cut_one : (c : ℕ) (bytes a b x y : List ℕ) → IsCutAt c bytes a x → IsCutAt c bytes b y → (a ≡ b) × (x ≡ y)
cut_one c bytes a b x y h k = cut_unique c a b x y h.first k.first (sym h.joined ∙ k.joined)

pub cut_not : {P : Type 0} (c : ℕ) (bytes a x : List ℕ) → IsCutAt c bytes a x → Lacks c bytes → P
cut_not c bytes a x h lacks = absurd (no_cut c a x (subst (Lacks c) h.joined lacks))

-- the same value follows where the same bytes say it
abbrev pub SaysOne : {A : Type 0} → (List ℕ → A → Type 0) → Type 0
SaysOne {A} x = (bytes : List ℕ) (a b : A) → x bytes a → x bytes b → a ≡ b

module _ {A : Type 0} (c : ℕ) (x : List ℕ → A → Type 0) (one : SaysOne x) where
  -- what is said by the front of what is cut
  pub at_cut : (bytes front back : List ℕ) (b : A) (values : List A) → IsCutAt c bytes front back → SaysFields c x bytes (b ∷ values)
      → x front b × SaysFields c x back values
  at_cut bytes front back b values cut (inl h) = cut_not c bytes front back cut h.0
  at_cut bytes front back b values cut (inr h) =
      let same = cut_one c bytes h.0 front h.1 back h.2 cut in
      (subst (λ f. x f b) same.0 h.3, subst (λ k. SaysFields c x k values) same.1 h.4)

  pub at_last : (bytes : List ℕ) (b : A) (values : List A) → Lacks c bytes → SaysFields c x bytes (b ∷ values) → x bytes b × (values ≡ [])
  at_last bytes b values lacks (inl h) = (h.1, h.2)
  at_last bytes b values lacks (inr h) = cut_not c bytes h.0 h.1 h.2 lacks

  pub fields_one : (bytes : List ℕ) (us bs : List A) → SaysFields c x bytes us → SaysFields c x bytes bs → us ≡ bs
  fields_one bytes [] bs h k = absurd h
  fields_one bytes (a ∷ us) [] h k = absurd k
  fields_one bytes (a ∷ us) (b ∷ bs) (inl h) k =
      let other = at_last bytes b bs h.0 k in
      let heads : a ≡ b = one bytes a b h.1 other.0 in
      cc (heads, h.2, other.1)
  fields_one bytes (a ∷ us) (b ∷ bs) (inr h) k =
      let other = at_cut bytes h.0 h.1 b bs h.2 k in
      let heads : a ≡ b = one h.0 a b h.3 other.0 in
      let tails : us ≡ bs = fields_one h.1 us bs h.4 other.1 in
      cc (heads, tails)

  -- these values were read so far: what the rest says goes on after them
  pub record HasRead (bytes rest : List ℕ) (found : List A) : Type 0 where
    pub back : (later : List A) → SaysFields c x rest later → SaysFields c x bytes (found ++ later)
    pub onward : (all : List A) → SaysFields c x bytes all → (later : List A) × (all ≡ found ++ later) × SaysFields c x rest later

  pub read_none : (bytes : List ℕ) → HasRead bytes bytes []
  read_none bytes = record { back = λ later h. h; onward = λ all h. (all, refl, h) }

  module _ (bytes rest : List ℕ) (found : List A) (so_far : HasRead bytes rest found) where
    pub read_next : (front back : List ℕ) (a : A) → IsCutAt c rest front back → x front a → HasRead bytes back (found ++ a ∷ [])
    read_next front back a cut says = record {
      back = λ later h.
          subst (SaysFields c x bytes) (sym (append_assoc found (a ∷ []) later))
          (so_far.back (a ∷ later) (inr (front, back, cut, says, h)));
      onward = λ all h. let o = so_far.onward all h in go o.0 all o.1 o.2;
    }
      where
        go : (later all : List A) → all ≡ found ++ later → SaysFields c x rest later
            → (more : List A) × (all ≡ (found ++ a ∷ []) ++ more) × SaysFields c x back more
        go [] all e h = absurd h
        go (b ∷ values) all e h =
            let next = at_cut rest front back b values cut h in
            let same : b ≡ a = one front b a next.0 says in
            (values, e ∙ ap (λ d. found ++ d ∷ values) same ∙ sym (append_assoc found (a ∷ []) values), next.1)

    pub read_refused : (front back : List ℕ) → IsCutAt c rest front back → ((a : A) → x front a → ⊥) → (all : List A)
        → SaysFields c x bytes all → ⊥
    read_refused front back cut not all h = let o = so_far.onward all h in go o.0 o.2
      where
        go : (later : List A) → SaysFields c x rest later → ⊥
        go [] h = h
        go (b ∷ values) h = not b (at_cut rest front back b values cut h).0

    pub read_last : (a : A) → Lacks c rest → x rest a → SaysFields c x bytes (found ++ a ∷ [])
    read_last a lacks says = so_far.back (a ∷ []) (inl (lacks, says, refl))

    pub last_refused : Lacks c rest → ((a : A) → x rest a → ⊥) → (all : List A) → SaysFields c x bytes all → ⊥
    last_refused lacks not all h = let o = so_far.onward all h in go o.0 o.2
      where
        go : (later : List A) → SaysFields c x rest later → ⊥
        go [] h = h
        go (b ∷ values) h = not b (at_last rest b values lacks h).0

pub cut_shorter : (c : ℕ) (bytes front back : List ℕ) → IsCutAt c bytes front back → length back < length bytes
cut_shorter c bytes front back cut = rw (cut.joined) (omega (arith, length-append front (c ∷ back)))

-- fields that are written of values are read so
module _ {A : Type 0} (c : ℕ) (x : List ℕ → A → Type 0) (text : A → List ℕ) where
  abbrev pub fields_text : List A → List ℕ
  fields_text values = flat_map (λ b. c ∷ text b) values

  pub fields_say : (a : A) (values : List A) → AllByRecursion (λ b. Lacks c (text b) × x (text b) b) (a ∷ values)
      → SaysFields c x (text a ++ fields_text values) (a ∷ values)
  fields_say a [] h = subst (λ bytes. SaysFields c x bytes (a ∷ [])) (sym (append-nil (text a))) (inl (h.0.0, h.0.1, refl))
  fields_say a (b ∷ values) h =
      inr (text a, text b ++ fields_text values, record { joined = refl; first = h.0.0 }, h.0.1, fields_say b values h.1)
