use Rattle.std.proofs.Common.{◌≡◌, ◌<◌, ◌+◌, ◌++◌, ◌∷◌, [], ℕ, length, get_or, set, slice_index, sym, ap, subst, ◌∙◌, arith}
use Rattle.std.proofs.lemmas.List.{get_or_default, length_push}
use Rattle.exploration.proofs.Chains.{IsAddingEdges, longer_by, ended_by, adding_past, adding_more, adding_all}
use Rattle.exploration.proofs.incoming.add_edges.Goals as goal
use Rattle.exploration.proofs.incoming.add_edges.Goals.{then-to-len+in_ok-push, else-to-len}

pub edges-preserved : goal.edges-preserved
edges-preserved c =
    let old_last = c.args.last.now.items in
    let old_edges = c.args.edges.now.items in
    let last = c.edges.last.items in
    let edges = c.edges.edges.items in
    let leaving = c.args.leaving.now in
    let state = c.args.state in
    let i = c.edges.letter-index in
    let to = (get_or leaving i (0, 0)).1 in
    let move : ℕ × ℕ = ((get_or leaving i (0, 0)).0, state) in
    elim c.if-to-len.branch [
      | then-to-len+in_ok-push w ↦
          let within : to < length last = (let t = w.if-to-len.true in let n = c.len.ensures in omega arith) in
          let before : w.index.result.now ≡ slice_index last to = w.index.ensures ∙ get_or_default last to w.index.result.now 0 within in
          let longer : w.push.new.self.items ≡ longer_by last edges to move = w.in_ok-push.ensures.items ∙ ap (λ x. edges ++ (move, x) ∷ []) before in
          let count : length w.push.new.self.items ≡ length edges + 1 = ap length longer ∙ length_push edges (move, slice_index last to) in
          let number : w.len-then-to-len.result ≡ length edges + 1 = (let n = w.len-then-to-len.ensures in omega arith) in
          subst (λ xs. IsAddingEdges old_last old_edges xs c.if-to-len.edges.items leaving state (i + 1)) (sym (ap (λ v. v.items) w.last-is ∙ ap (set last to) number))
          (subst (λ xs. IsAddingEdges old_last old_edges (ended_by last edges to) xs leaving state (i + 1)) (sym (ap (λ v. v.items) w.edges-is ∙ longer))
          (adding_more old_last old_edges last edges leaving state i c.edges.invariant c.edges-test.true within))
      | else-to-len w ↦
          subst (λ xs. IsAddingEdges old_last old_edges xs c.if-to-len.edges.items leaving state (i + 1)) (sym (ap (λ v. v.items) w.last-is))
          (subst (λ xs. IsAddingEdges old_last old_edges last xs leaving state (i + 1)) (sym (ap (λ v. v.items) w.edges-is))
          (adding_past old_last old_edges last edges leaving state i c.edges.invariant (let t = w.if-to-len.false in let n = c.len.ensures in omega arith)))
    ]

pub returns : goal.returns
returns c =
    adding_all c.args.last.now.items c.args.edges.now.items c.edges.last.items c.edges.edges.items c.args.leaving.now c.args.state c.edges.letter-index
    c.edges.invariant (let a = c.edges-test.false in omega arith)
