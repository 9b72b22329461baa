use Rattle.std.proofs.Common.{◌≡◌, ℕ, Option, Some, None, Contains, get_or, length, refl, sym, ap, subst, ◌∙◌, arith}
use Rattle.bit_set.specs.SetLists.{Adds, HasAt, IsInTable}
use Rattle.bit_set.proofs.ForCallers.{adds_first, adds_more, adds_all, adds_none, adds_same}
use Rattle.bit_subsets.proofs.add_targets.Goals as goal
use Rattle.bit_subsets.proofs.add_targets.Goals.{in-Some+in_ok-insert_with_room, in_default}

same_letter : (x : Option ℕ) (a b : ℕ) → x ≡ Some b → x ≡ Some a → a ≡ b
same_letter x a b e f = cc

no_letter : (x : Option ℕ) (a : ℕ) → x ≡ None → x ≡ Some a → ⊥
no_letter x a e f = cc

pub edges-init : goal.edges-init
edges-init c = adds_first HasAt (IsInTable (length c.args.empty.now)) (λ m a q. get_or c.args.edges.now m (None, 0) ≡ (Some a, q)) c.args.rows.now.items

pub edges-preserved : goal.edges-preserved
edges-preserved c =
    let edges = c.args.edges.now in
    let at = c.edges.letter-index in
    let edge = get_or edges at (None, 0) in
    adds_more HasAt (IsInTable (length c.args.empty.now)) (λ m a q. get_or edges m (None, 0) ≡ (Some a, q)) at c.args.rows.now.items c.edges.rows.items c.match-letter.rows.items c.edges.invariant
    (elim c.match-letter.branch [
      | in-Some+in_ok-insert_with_room w ↦
          subst (Adds HasAt (IsInTable (length c.args.empty.now)) (λ a q. edge ≡ (Some a, q)) c.edges.rows.items) (sym (ap (λ v. v.items) w.rows-is))
          (adds_same HasAt (IsInTable (length c.args.empty.now)) (λ a q. (a ≡ w.in-Some.letter) × (q ≡ edge.1)) (λ a q. edge ≡ (Some a, q)) c.edges.rows.items w.insert_with_room.new.sets.items
          (λ a q is. (same_letter edge.0 a w.in-Some.letter w.in-Some.is (ap (λ (x : Option ℕ × ℕ). x.0) is), sym (ap (λ (x : Option ℕ × ℕ). x.1) is)))
          (λ a q is. (λ i. ((w.in-Some.is ∙ ap Some (sym is.0)) i, sym is.1 i)))
          w.in_ok-insert_with_room.ensures)
      | in_default w ↦
          subst (Adds HasAt (IsInTable (length c.args.empty.now)) (λ a q. edge ≡ (Some a, q)) c.edges.rows.items) (sym (ap (λ v. v.items) w.rows-is))
          (adds_none HasAt (IsInTable (length c.args.empty.now)) (λ a q. edge ≡ (Some a, q)) c.edges.rows.items (λ a q is. no_letter edge.0 a w.in_default.is (ap (λ (x : Option ℕ × ℕ). x.0) is)))
    ])

pub returns : goal.returns
returns c =
    let edges = c.args.edges.now in
    adds_same HasAt (IsInTable (length c.args.empty.now)) (λ a q. (edge : Option ℕ × ℕ) × Contains edges edge × (edge ≡ (Some a, q)))
    (λ a q. Contains edges (Some a, q)) c.args.rows.now.items c.edges.rows.items
    (λ a q there. ((Some a, q), there, refl))
    (λ a q some. subst (Contains edges) some.2 some.1)
    (adds_all HasAt (IsInTable (length c.args.empty.now)) (λ edge a q. edge ≡ (Some a, q)) edges (None, 0) c.edges.letter-index c.args.rows.now.items c.edges.rows.items
    (let t = c.edges-test.false in omega arith) c.edges.invariant)
