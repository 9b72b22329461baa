use Rattle.std.proofs.Common.{◌≡◌, ◌+◌, List, ℕ, subst, arith}
use Rattle.std.proofs.lemmas.Grind.{common_steps}
use Rattle.protocol_lexer.specs.declared.Place.{Place}
use Rattle.protocol_lexer.specs.Place.{start_place}
use Rattle.protocol_lexer.specs.Tokens.{Takes, IsBadByte}
use Rattle.protocol_lexer.proofs.Taking.{Leads-step, Leads-end, not_empty, is_empty}
use Rattle.protocol_lexer.proofs.Lying.{LieInOrder-taken}
use Rattle.protocol_lexer.proofs.tokens.Goals as goal

pub returns-in_default-clause-bad_byte : goal.returns-in_default-clause-bad_byte
returns-in_default-clause-bad_byte c = λ place e.
    let text = c.args.text.now in
    let same : c.tokens.place ≡ place = cc in
    let end = Leads-end text c.tokens.found.items c.tokens.rest.now c.tokens.at c.tokens.place c.tokens.invariant.leads in
    subst (λ (p : Place). IsBadByte text p) same
    (c.tokens.found.items, c.tokens.rest.now, end, not_empty _ (grind arith), (cc))

pub tokens-preserved : goal.tokens-preserved
tokens-preserved c = record {
  within = grind (arith, common_steps);
  line = grind (arith, common_steps);
  column = grind (arith, common_steps);
  leads =
      Leads-step c.args.text.now c.tokens.found.items c.tokens.rest.now c.tokens.at c.tokens.place c.in-Some.piece
      c.tokens.invariant.leads (cc) _ _ _ _ (c.in_ok-push_token.ensures.ok) c.split_at.ensures.back (λ i. c.tokens.at + c.in-Some.piece.length)
      (rw (c.after-place.ensures.place, c.split_at.ensures.front));
}

pub returns-clause-taken : goal.returns-clause-taken
returns-clause-taken c =
    let end = Leads-end c.args.text.now c.tokens.found.items c.tokens.rest.now c.tokens.at c.tokens.place c.tokens.invariant.leads in
    (c.tokens.place, subst (λ (rest : List ℕ). Takes c.args.text.now 0 start_place c.tokens.found.items rest c.tokens.place) (is_empty _ (grind arith)) end)

pub returns-clause-lie_in_order : goal.returns-clause-lie_in_order
returns-clause-lie_in_order c = LieInOrder-taken c.args.text.now c.tokens.found.items (returns-clause-taken c)
