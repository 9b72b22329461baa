-- A configuration is told by its word, whose letters are those of the system's automata.
use Rattle.std.proofs.Common.{◌≡◌, ◌<◌, ◌≤◌, ◌+◌, ℕ, true, List, [], ◌∷◌, All, IsTrue, refl, sym, ap, arith, true≢false}
use Rattle.std.proofs.lemmas.Bool.{and_parts}
use Rattle.std.proofs.lemmas.List.Sums.{sum_by-cons}
use Rattle.std.proofs.lemmas.List.Elements.{All-nil, All-cons, All-append, All-map}
use Rattle.protocol_model.specs.declared.system.Section.{Section}
use Rattle.protocol_model.specs.declared.system.Configuration.{Configuration}
use Rattle.protocol_model.specs.System.{SystemData, letter_count, total_letters}
use Rattle.protocol_model.specs.Patterns.{fits, list_fits, lists_fit}
use Rattle.protocol_model.specs.Words.{word_of, automata_letters, separator_of, raised, raised_lists, joined}
use Rattle.configuration_words.proofs.CutLemmas.{cut_unique}
use Rattle.configuration_words.proofs.WordLemmas.{raised_Lacks, raised_same, fitting_letters, fitting_below}

module _ (separator : ℕ) where
  -- the letters of a section and those of the later ones
  section-below : (offset : ℕ) (section : Section) (sections : List Section) → offset + total_letters (section ∷ sections) ≤ separator
      → (offset + letter_count section ≤ separator) × ((offset + letter_count section) + total_letters sections ≤ separator)
  section-below offset section sections limit =
      let sum = sum_by-cons letter_count section sections in (omega (arith, sum), omega (arith, sum))

  joined-injective : (offset : ℕ) (sections : List Section) (xs ys : List (List ℕ)) → lists_fit sections xs ≡ true → lists_fit sections ys ≡ true
      → offset + total_letters sections ≤ separator
      → joined separator (raised_lists offset sections xs) ≡ joined separator (raised_lists offset sections ys) → xs ≡ ys
  joined-injective offset [] [] [] fx fy limit e = refl
  joined-injective offset [] [] (y ∷ ys) fx fy limit e = absurd (true≢false (sym fy))
  joined-injective offset [] (x ∷ xs) ys fx fy limit e = absurd (true≢false (sym fx))
  joined-injective offset (s ∷ ss) [] ys fx fy limit e = absurd (true≢false (sym fx))
  joined-injective offset (s ∷ ss) (x ∷ xs) [] fx fy limit e = absurd (true≢false (sym fy))
  joined-injective offset (s ∷ []) (x ∷ []) (y ∷ []) fx fy limit e = ap (λ (l : List ℕ). l ∷ []) (raised_same offset x y e)
  joined-injective offset (s ∷ []) (x ∷ []) (y ∷ (y' ∷ ys)) fx fy limit e =
      absurd (true≢false (sym (and_parts (list_fits s y) (lists_fit [] (y' ∷ ys)) fy).1))
  joined-injective offset (s ∷ []) (x ∷ (x' ∷ xs)) (y ∷ ys) fx fy limit e =
      absurd (true≢false (sym (and_parts (list_fits s x) (lists_fit [] (x' ∷ xs)) fx).1))
  joined-injective offset (s ∷ (t ∷ ss)) (x ∷ []) (y ∷ ys) fx fy limit e =
      absurd (true≢false (sym (and_parts (list_fits s x) (lists_fit (t ∷ ss) []) fx).1))
  joined-injective offset (s ∷ (t ∷ ss)) (x ∷ (x' ∷ xs)) (y ∷ []) fx fy limit e =
      absurd (true≢false (sym (and_parts (list_fits s y) (lists_fit (t ∷ ss) []) fy).1))
  joined-injective offset (s ∷ (t ∷ ss)) (x ∷ (x' ∷ xs)) (y ∷ (y' ∷ ys)) fx fy limit e =
      let px = and_parts (list_fits s x) (lists_fit (t ∷ ss) (x' ∷ xs)) fx in
      let py = and_parts (list_fits s y) (lists_fit (t ∷ ss) (y' ∷ ys)) fy in
      let below = section-below offset s (t ∷ ss) limit in
      let next = offset + letter_count s in
      let same = cut_unique separator (raised offset x) (raised offset y)
      (joined separator (raised_lists next (t ∷ ss) (x' ∷ xs))) (joined separator (raised_lists next (t ∷ ss) (y' ∷ ys)))
      (raised_Lacks offset (letter_count s) separator x (fitting_letters s x px.0) below.0)
      (raised_Lacks offset (letter_count s) separator y (fitting_letters s y py.0) below.0) e in
      let heads : x ≡ y = raised_same offset x y same.0 in
      let tails : x' ∷ xs ≡ y' ∷ ys = joined-injective next (t ∷ ss) (x' ∷ xs) (y' ∷ ys) px.1 py.1 below.1 same.1 in
      cc (heads, tails)

  raised-below : (offset : ℕ) (section : Section) (list : List ℕ) → list_fits section list ≡ true → offset + letter_count section ≤ separator
      → All (λ a. a < separator + 1) (raised offset list)
  raised-below offset section list fit below =
      All-map (λ (a : ℕ). a < separator + 1) (λ (a : ℕ). a + offset) list (fitting_below section list offset (separator + 1) fit (omega arith))

  joined-below : (offset : ℕ) (sections : List Section) (xs : List (List ℕ)) → lists_fit sections xs ≡ true
      → offset + total_letters sections ≤ separator → All (λ a. a < separator + 1) (joined separator (raised_lists offset sections xs))
  joined-below offset [] xs fx limit = All-nil (λ (a : ℕ). a < separator + 1)
  joined-below offset (s ∷ ss) [] fx limit = All-nil (λ (a : ℕ). a < separator + 1)
  joined-below offset (s ∷ []) (x ∷ xs) fx limit =
      raised-below offset s x (and_parts (list_fits s x) (lists_fit [] xs) fx).0 (section-below offset s [] limit).0
  joined-below offset (s ∷ (t ∷ ss)) (x ∷ []) fx limit =
      raised-below offset s x (and_parts (list_fits s x) (lists_fit (t ∷ ss) []) fx).0 (section-below offset s (t ∷ ss) limit).0
  joined-below offset (s ∷ (t ∷ ss)) (x ∷ (x' ∷ xs)) fx limit =
      let px = and_parts (list_fits s x) (lists_fit (t ∷ ss) (x' ∷ xs)) fx in
      let below = section-below offset s (t ∷ ss) limit in
      let next = offset + letter_count s in
      let rest = joined separator (raised_lists next (t ∷ ss) (x' ∷ xs)) in
      All-append (λ (a : ℕ). a < separator + 1) (raised offset x) (separator ∷ rest) (raised-below offset s x px.0 below.0)
      (All-cons (λ (a : ℕ). a < separator + 1) separator rest (omega arith) (joined-below next (t ∷ ss) (x' ∷ xs) px.1 below.1))

pub word_of-injective : (s : SystemData) (c d : Configuration) → IsTrue (fits s c) → IsTrue (fits s d) → word_of s c ≡ word_of s d → c ≡ d
word_of-injective s c d fc fd e =
    ap (λ (lists : List (List ℕ)). record { lists = lists }) (joined-injective (separator_of s) 0 s.sections c.lists d.lists fc fd (omega arith) e)

pub word_of-in_range : (s : SystemData) (c : Configuration) → IsTrue (fits s c) → All (λ a. a < automata_letters s) (word_of s c)
word_of-in_range s c fc = joined-below (separator_of s) 0 s.sections c.lists fc (omega arith)
