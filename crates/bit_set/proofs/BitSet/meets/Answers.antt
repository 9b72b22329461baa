use Rattle.std.proofs.Common.{ℕ, get_or, refl, subst, arith}
use Rattle.bit_set.specs.private.Words.{AreCommonBits}
use Rattle.bit_set.proofs.Sets.{both_found, word_read}
use Rattle.bit_set.proofs.BitSet.meets.Goals as goal

pub returns-then-common_bits-ne0 : goal.returns-then-common_bits-ne0
returns-then-common_bits-ne0 c =
    let mine = c.args.self.now in
    let its = c.args.other.now in
    let at = c.words.at in
    let common = c.common_bits.result in
    let is = word_read c.self.inside.words.items mine at c.index.result.now (omega arith) c.index.ensures c.self.view_is in
    let bits : AreCommonBits (get_or mine at 0) (get_or its at 0) common =
    subst (λ (w : ℕ). AreCommonBits (get_or mine at 0) w common) c.word.ensures (subst (λ (w : ℕ). AreCommonBits w c.word.result common) is c.common_bits.ensures) in
    (λ t. both_found mine its at common bits c.common_bits.type_inv (λ none. absurd (let some = c.if-common_bits-ne0.true in omega arith)), λ both. refl)
