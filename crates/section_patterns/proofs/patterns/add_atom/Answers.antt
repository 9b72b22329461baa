use Rattle.std.proofs.Common.{◌<◌, ◌∙◌, All, sym, subst, ap}
use Rattle.protocol_model.specs.Words.{raised}
use Rattle.section_patterns.specs.private.Languages.{AcceptsFrom, BeginsWithLetter, IsAdded}
use Rattle.section_patterns.specs.private.Lists.{BeginsWithAtom}
use Rattle.section_patterns.proofs.ListLemmas.{raised_below}
use Rattle.std.proofs.lemmas.Result.{IfOk-weaker}
use Rattle.section_patterns.proofs.PatternLemmas.{atom_plus}
use Rattle.section_patterns.proofs.patterns.add_atom.Goals as goal

pub add_step-requires-clause-letters : goal.add_step-requires-clause-letters
add_step-requires-clause-letters c =
    let letters = c.as_slice-in-One.ensures.value ∙ c.in_ok-letters.ensures ∙ ap (raised c.args.offset) c.as_slice.ensures in
    subst (All (λ a. a < c.args.builder.now.letters)) (sym letters)
    (raised_below c.args.offset c.args.count c.args.builder.now.letters c.args.atom.now.letters c.requires.letters c.requires.fits)

pub add_loop-requires-clause-letters : goal.add_loop-requires-clause-letters
add_loop-requires-clause-letters c =
    let letters = c.as_slice-in-Star.ensures.value ∙ c.in_ok-letters.ensures ∙ ap (raised c.args.offset) c.as_slice.ensures in
    subst (All (λ a. a < c.args.builder.now.letters)) (sym letters)
    (raised_below c.args.offset c.args.count c.args.builder.now.letters c.args.atom.now.letters c.requires.letters c.requires.fits)

pub add_loop-requires-in-Plus-clause-letters : goal.add_loop-requires-in-Plus-clause-letters
add_loop-requires-in-Plus-clause-letters c =
    let letters = c.as_slice-in-Plus.ensures.value ∙ c.in_ok-letters.ensures ∙ ap (raised c.args.offset) c.as_slice.ensures in
    subst (All (λ a. a < c.args.builder.now.letters)) (sym letters)
    (raised_below c.args.offset c.args.count c.args.builder.now.letters c.args.atom.now.letters c.requires.letters c.requires.fits)

pub add_step-requires-in-Plus-clause-letters : goal.add_step-requires-in-Plus-clause-letters
add_step-requires-in-Plus-clause-letters c =
    let letters = c.as_slice-in-Plus-2.ensures.value ∙ c.in_ok-letters.ensures ∙ ap (raised c.args.offset) c.as_slice.ensures in
    subst (λ n. All (λ a. a < n) c.as_slice-in-Plus-2.result.now) (sym c.in_ok-behind-in-Plus.ensures.same_letters)
    (subst (All (λ a. a < c.args.builder.now.letters)) (sym letters)
    (raised_below c.args.offset c.args.count c.args.builder.now.letters c.args.atom.now.letters c.requires.letters c.requires.fits))

pub returns : goal.returns
returns c =
    let one = c.as_slice-in-Plus.ensures.value ∙ c.in_ok-letters.ensures ∙ ap (raised c.args.offset) c.as_slice.ensures in
    let two = c.as_slice-in-Plus-2.ensures.value ∙ c.in_ok-letters.ensures ∙ ap (raised c.args.offset) c.as_slice.ensures in
    let old = c.args.builder.now in
    let mid = c.add_loop-in-Plus.new.builder in
    let new = c.add_step-in-Plus.new.builder in
    let behind = c.in_ok-behind-in-Plus.behind in
    let letters = raised c.args.offset c.args.atom.now.letters in
    IfOk-weaker c.add_step-in-Plus.result
    (λ state. IsAdded mid new state (BeginsWithLetter c.as_slice-in-Plus-2.result.now (AcceptsFrom mid behind)))
    (λ state. IsAdded old new state (BeginsWithAtom c.args.atom.now.many letters (AcceptsFrom old c.args.next)))
    (λ state added. atom_plus old mid new behind state c.args.next c.args.atom.now.many letters c.as_slice-in-Plus.result.now c.as_slice-in-Plus-2.result.now
    c.in-Plus.is one two c.in_ok-behind-in-Plus.ensures added)
    c.add_step-in-Plus.ensures
