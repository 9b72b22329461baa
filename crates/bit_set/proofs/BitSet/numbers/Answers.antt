use Rattle.std.proofs.Common.{◌*◌, ℕ, length, get_or, ap, subst, arith}
use Rattle.bit_set.specs.Bits.{Has}
use Rattle.bit_set.proofs.Sets.{HasNumbers, Has-word, Has-within, numbers_added, numbers_more, numbers_all, word_read}
use Rattle.bit_set.proofs.BitSet.numbers.Goals as goal

pub words-preserved : goal.words-preserved
words-preserved c =
    let at = c.words.at in
    let old = c.words.numbers.items in
    let new = c.add_numbers.new.numbers.items in
    let is = word_read c.self.inside.words.items c.args.self.now at c.index.result.now (omega arith) c.index.ensures c.self.view_is in
    let told = c.in_ok-add_numbers.ensures in
    let adds = numbers_added old new (at * 64) c.index.result.now told.kept told.added told.only in
    numbers_more (Has c.args.self.now) (get_or c.args.self.now at 0) old new at (Has-word c.args.self.now at) c.words.invariant
    (subst (λ (w : ℕ). HasNumbers old new (at * 64) w 0) is adds)

pub returns : goal.returns
returns c =
    numbers_all (Has c.args.self.now) c.words.numbers.items c.words.at c.words.invariant
    (λ k has. let l = Has-within c.args.self.now k has in let e = ap length c.self.view_is in let t = c.words-test.false in omega arith)
