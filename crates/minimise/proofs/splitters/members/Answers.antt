use Rattle.std.proofs.Common.{◌≡◌, ◌<◌, ◌⊎◌, length, slice_index, sym, ap, subst, ◌∙◌, arith}
use Rattle.std.proofs.lemmas.List.{length-set}
use Rattle.minimise.specs.private.Splitters.{IsListed}
use Rattle.minimise.proofs.MemberLists.{members_more, members_same}
use Rattle.minimise.proofs.splitters.members.Goals as goal
use Rattle.minimise.proofs.splitters.members.Goals.{then-class-ne0+in_ok-push, else-class-ne0}

pub states-preserved : goal.states-preserved
states-preserved c =
    let classes = c.args.classes.now in
    let lists = c.states.lists.items in
    let i = c.states.state in
    let so_far = c.states.invariant in
    elim c.if-class-ne0.branch [
      | then-class-ne0+in_ok-push w ↦
          let class = slice_index classes i in
          let low : class < length lists = (let r = c.requires i in let n = so_far.count in omega arith) in
          record {
            count = (let e = ap (λ v. length v.items) w.lists-is ∙ length-set lists class w.push.new.self in let n = so_far.count in omega arith);
            below = λ q l. subst (λ xs. (slice_index classes q ≡ 0) ⊎ IsListed xs (slice_index classes q) q) (sym (ap (λ v. v.items) w.lists-is))
                (members_more classes lists i so_far.below class w.index_mut-list.result.now w.push.new.self (λ j. class) low w.index_mut-list.ensures.value w.in_ok-push.ensures.items q l);
          }
      | else-class-ne0 w ↦ record {
        count = (let e = ap (λ v. length v.items) w.lists-is in let n = so_far.count in omega arith);
        below = λ q l. subst (λ xs. (slice_index classes q ≡ 0) ⊎ IsListed xs (slice_index classes q) q) (sym (ap (λ v. v.items) w.lists-is))
            (members_same classes lists i so_far.below w.if-class-ne0.false q l);
      }
    ]
