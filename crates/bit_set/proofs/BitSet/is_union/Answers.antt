use Rattle.std.proofs.Common.{◌/◌, ◌%◌, [], ◌∙◌, length, get_or, sym, ap, subst, arith}
use Rattle.bit_set.specs.private.Words.{IsWordOfAll}
use Rattle.bit_set.proofs.Sets.{Has-within, below_next, word_read}
use Rattle.bit_set.proofs.BitSet.is_union.Goals as goal

pub words-preserved : goal.words-preserved
words-preserved c =
    let at = c.words.at in
    let is = word_read c.self.inside.words.items c.args.self.now at c.index.result.now (omega arith) c.index.ensures c.self.view_is in
    below_next (λ k. IsWordOfAll c.args.sets.now c.args.places.now k (get_or c.args.self.now k 0)) at c.words.invariant
    (subst (IsWordOfAll c.args.sets.now c.args.places.now at) (sym c.if-index-word_of_all.false ∙ is) c.word_of_all.ensures)

pub returns-clause-only : goal.returns-clause-only
returns-clause-only c = λ t k has.
    let within = Has-within c.args.self.now k has in
    let count = ap length c.self.view_is in
    (c.words.invariant (k / 64) (omega arith)).only (k % 64) has

pub returns-clause-all : goal.returns-clause-all
returns-clause-all c = λ t p k there has.
    let within = Has-within (get_or c.args.sets.now p []) k has in
    let fits = c.fit.ensures c.if-not-fit.false p there in
    let count = ap length c.self.view_is in
    (c.words.invariant (k / 64) (omega arith)).all p (k % 64) there has
