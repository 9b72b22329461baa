use Rattle.std.proofs.Common.{◌≡◌, ◌+◌, ◌<◌, length, set, slice_index, sym, ap, subst, ◌∙◌, arith}
use Rattle.std.proofs.lemmas.List.{get_or_default, length-set}
use Rattle.minimise.specs.private.Splitters.{AreListed, AreMovedBefore, target_of, source_at}
use Rattle.minimise.proofs.MovedSources.{moved_past, moved_same, moved_more, target_twice, target_within, listed_moved}
use Rattle.minimise.proofs.splitters.move_sources.Goals as goal
use Rattle.minimise.proofs.splitters.move_sources.Goals.{then-state-len+then-target-class+in_ok-push, then-state-len+else-target-class, else-state-len}

pub moves-preserved : goal.moves-preserved
moves-preserved c =
    let target = target_of c.args.targets.now c.len-count.result in
    let twice = target_twice c.args.targets.now c.len-count.result in
    let moves = c.args.moves.now in
    let old = c.args.classes.now.items in
    let classes = c.moves.classes.items in
    let members = c.moves.members.items in
    let i = c.moves.state-index in
    let state = source_at moves i in
    let so_far = c.moves.invariant in
    elim c.if-state-len.branch [
      | then-state-len+then-target-class+in_ok-push w ↦
          let there : state < length classes = (let t = w.if-state-len.true in let n = c.len.ensures in omega arith) in
          let class : w.index-class.result.now ≡ slice_index classes state = w.index-class.ensures ∙ get_or_default classes state w.index-class.result.now 0 there in
          let to : w.target_of-target.result ≡ target (slice_index classes state) = w.target_of-target.ensures ∙ ap target class in
          let list = w.index_mut-list.result.now in
          let more = w.push.new.self in
          let low : w.target_of-target.result < length members =
          (let t = target_within c.args.targets.now c.len-count.result (slice_index classes state) (λ e. w.if-target-class.true (to ∙ e ∙ sym class)) in let n = so_far.count in omega arith) in
          record {
            count = ap (λ v. length v.items) w.members-is ∙ length-set members w.target_of-target.result more ∙ so_far.count;
            listed = subst (λ xs. AreListed xs c.if-state-len.members.items) (sym (ap (λ v. v.items) w.classes-is))
                (subst (AreListed (set classes state w.target_of-target.result)) (sym (ap (λ v. v.items) w.members-is))
                (listed_moved classes members state w.target_of-target.result list more there low w.index_mut-list.ensures.value w.in_ok-push.ensures.items so_far.listed));
            moved = subst (λ xs. AreMovedBefore target moves old xs (i + 1)) (sym (ap (λ v. v.items) w.classes-is))
                (moved_more target twice moves old classes i so_far.moved w.target_of-target.result there to);
          }
      | then-state-len+else-target-class w ↦
          let there : state < length classes = (let t = w.if-state-len.true in let n = c.len.ensures in omega arith) in
          let class : w.index-class.result.now ≡ slice_index classes state = w.index-class.ensures ∙ get_or_default classes state w.index-class.result.now 0 there in
          let stays : target (slice_index classes state) ≡ slice_index classes state = ap target (sym class) ∙ sym w.target_of-target.ensures ∙ w.if-target-class.false ∙ class in
          record {
            count = ap (λ v. length v.items) w.members-is ∙ so_far.count;
            listed = subst (λ xs. AreListed xs c.if-state-len.members.items) (sym (ap (λ v. v.items) w.classes-is))
                (subst (AreListed classes) (sym (ap (λ v. v.items) w.members-is)) so_far.listed);
            moved = subst (λ xs. AreMovedBefore target moves old xs (i + 1)) (sym (ap (λ v. v.items) w.classes-is))
                (moved_same target twice moves old classes i so_far.moved there stays);
          }
      | else-state-len w ↦ record {
        count = ap (λ v. length v.items) w.members-is ∙ so_far.count;
        listed = subst (λ xs. AreListed xs c.if-state-len.members.items) (sym (ap (λ v. v.items) w.classes-is))
            (subst (AreListed classes) (sym (ap (λ v. v.items) w.members-is)) so_far.listed);
        moved = subst (λ xs. AreMovedBefore target moves old xs (i + 1)) (sym (ap (λ v. v.items) w.classes-is))
            (moved_past target twice moves old classes i so_far.moved (let t = w.if-state-len.false in let n = c.len.ensures in omega arith));
      }
    ]
