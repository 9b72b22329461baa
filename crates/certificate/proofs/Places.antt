-- The place of the first element that passes a test, and names by their places.
use Rattle.std.proofs.Common.{◌≡◌, ◌≢◌, ◌<◌, ◌&&◌, true≢false, nat_le, is_none, ℕ, Bool, true, false, List, [], ◌∷◌, Some, None, AllPairs, cond, map, length, get_or, nat_lt, refl, sym, subst, ap, ◌∙◌, inl, arith}
use Rattle.std.specs.List.{list_all, list_any, position, position_or_len}
use Rattle.std.specs.Str.{bytes_eq}
use Rattle.std.specs.Cmp.Lexicographic.{bytes_decides}
use Rattle.std.proofs.lemmas.Bool.{and_parts, lt-ltb}
use Rattle.std.proofs.lemmas.List.Sums.{position_or_len_is}
use Rattle.std.proofs.lemmas.List.{map-id}
use Rattle.protocol_model.proofs.ForCallers.{position_is}
use Rattle.protocol_lexer.specs.Piece.{is_word_byte}
use Rattle.forms.specs.Symbol.{keyword_of}
use Rattle.protocol_model.specs.Names.{is_word, IsName}
use Rattle.lines.specs.Bytes.{Lacks}
use Rattle.lines.specs.Grammar.{Line, Says, numbered}

module _ {X : Type 0} (p : X → Bool) where
  position_known : (xs : List X) → position p xs ≡ cond (list_any p xs) (Some (position_or_len p xs)) None
  position_known xs =
      subst (λ ys. position p xs ≡ cond (list_any p ys) (Some (position_or_len p ys)) None) (map-id xs) (position_is p (λ y. y) xs)

-- a test of elements, and of what they are mapped to
pub position_mapped : {X Y : Type 0} (p : Y → Bool) (f : X → Y) (xs : List X) → position (λ x. p (f x)) xs ≡ position p (map f xs)
position_mapped p f xs = position_is p f xs ∙ sym (position_known p (map f xs))

-- the place of a name among distinct ones
pub place_of_name : (names : List (List ℕ)) → AllPairs (λ a b. a ≢ b) names → (i : ℕ) → i < length names
    → position (bytes_eq (get_or names i [])) names ≡ Some i
place_of_name names distinct i within =
    let name = get_or names i [] in
    let p = bytes_eq name in
    let at : position_or_len p names ≡ i =
    position_or_len_is p names i [] (omega (arith, within))
    (λ k before. no_name (bytes_eq name (get_or names k [])) (λ e. distinct k i [] before within (sym ((bytes_decides name (get_or names k [])).0 e))))
    (λ _. (bytes_decides name name).1 refl) in
    subst (λ n. cond (nat_lt n (length names)) (Some n) None ≡ Some i) (sym at) (ap (λ b. cond b (Some i) None) (lt-ltb i (length names) within))
  where
    no_name : (b : Bool) → (b ≡ true → ⊥) → b ≡ false
    no_name true not = absurd (not refl)
    no_name false not = refl

-- a name that is numbered among others
module _ {A : Type 0} (names : List (List ℕ)) (x : Line A) where
  pub numbered_says : AllPairs (λ a b. a ≢ b) names → (i : ℕ) → i < length names → Says (numbered names x) (get_or names i []) i
  numbered_says distinct i within = inl (place_of_name names distinct i within)

-- words lack each byte that is no word's
pub word_bytes_lack : (byte : ℕ) → is_word_byte byte ≡ false → (name : List ℕ) → list_all is_word_byte name ≡ true → Lacks byte name
word_bytes_lack byte apart [] w = tt
word_bytes_lack byte apart (b ∷ name) w =
    let parts = and_parts (is_word_byte b) (list_all is_word_byte name) w in
    (λ e. true≢false (sym (subst (λ x. is_word_byte x ≡ true) e parts.0) ∙ apart), word_bytes_lack byte apart name parts.1)

pub name_lacks : (byte : ℕ) → is_word_byte byte ≡ false → (name : List ℕ) → IsName name → Lacks byte name
name_lacks byte apart name is =
    word_bytes_lack byte apart name
    (and_parts (nat_lt 0 (length name) && nat_le (length name) 32) (list_all is_word_byte name)
    (and_parts (is_word name) (is_none (keyword_of name)) is).0).1
