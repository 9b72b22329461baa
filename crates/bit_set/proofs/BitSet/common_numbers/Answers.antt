use Rattle.std.proofs.Common.{◌*◌, ℕ, length, get_or, ap, subst, arith}
use Rattle.bit_set.specs.private.Words.{AreCommonBits}
use Rattle.bit_set.proofs.Sets.{HaveBoth, Has-within, both_bits, numbers_added, numbers_all, numbers_more, word_read}
use Rattle.bit_set.proofs.BitSet.common_numbers.Goals as goal

pub words-preserved : goal.words-preserved
words-preserved c =
    let mine = c.args.self.now in
    let its = c.args.other.now in
    let at = c.words.at in
    let common = c.common_bits-common.result in
    let old = c.words.numbers.items in
    let new = c.add_numbers.new.numbers.items in
    let is = word_read c.self.inside.words.items mine at c.index.result.now (omega arith) c.index.ensures c.self.view_is in
    let told = c.in_ok-add_numbers.ensures in
    let bits : AreCommonBits (get_or mine at 0) (get_or its at 0) common =
    subst (λ (w : ℕ). AreCommonBits (get_or mine at 0) w common) c.word.ensures (subst (λ (w : ℕ). AreCommonBits w c.word.result common) is c.common_bits-common.ensures) in
    numbers_more (HaveBoth mine its) common old new at (both_bits mine its at common bits) c.words.invariant
    (numbers_added old new (at * 64) common told.kept told.added told.only)

pub returns : goal.returns
returns c = numbers_all (HaveBoth c.args.self.now c.args.other.now) c.words.numbers.items c.words.at c.words.invariant (λ k both.
    let within = Has-within c.args.self.now k both.0 in
    let count = ap length c.self.view_is in
    omega arith)
