use Rattle.std.proofs.Common.{◌≡◌, ◌+◌, ◌-◌, ◌<◌, ◌%◌, suc, length, slice_index, refl, sym, ap, subst, ◌∙◌, add-one, arith}
use Rattle.std.proofs.lemmas.List.{get_or_default}
use Rattle.minimise.specs.private.Numbering.{bucket_of}
use Rattle.minimise.proofs.Buckets.{first_within, first_kept, last_number, numbered_more, buckets_same, own_within, buckets_put}
use Rattle.minimise.proofs.numbering.number_of.Goals as goal

pub returns-then-class-eq0-clause-buckets : goal.returns-then-class-eq0-clause-buckets
returns-then-class-eq0-clause-buckets c =
    buckets_same c.args.least.now 0 c.args.state c.requires.next c.requires.buckets (λ e. omega arith)

pub returns-then-class-eq0-clause-numbered : goal.returns-then-class-eq0-clause-numbered
returns-then-class-eq0-clause-numbered c =
    numbered_more c.args.least.now 0 c.args.state c.requires.next c.requires.numbered (λ z. refl) (λ ne. absurd (ne c.if-class-eq0.true)) (λ e r f same. absurd (omega arith))

pub returns-then-found-ne0-clause-numbered : goal.returns-then-found-ne0-clause-numbered
returns-then-found-ne0-clause-numbered c =
    let least = c.args.least.now in
    let number = c.find-found.result in
    let before : number ≡ suc (number - 1) = (let ne = c.if-found-ne0.true in omega arith) in
    let found = c.find-found.ensures.found (number - 1) before in
    let within = first_within least (number - 1) found.0 in
    let next = c.requires.next in
    numbered_more least number c.args.state c.requires.next c.requires.numbered (λ z. absurd (c.if-class-eq0.false z))
    (λ ne. (number - 1, before, (omega arith), first_kept least number c.args.state c.requires.next (number - 1) found.0, found.1))
    (λ e r f same. absurd (omega arith))

pub returns-then-found-ne0-clause-buckets : goal.returns-then-found-ne0-clause-buckets
returns-then-found-ne0-clause-buckets c =
    let least = c.args.least.now in
    buckets_same least c.find-found.result c.args.state c.requires.next c.requires.buckets
    (λ e. let w = first_within least c.args.state (c.find-found.ensures.found c.args.state e).0 in let next = c.requires.next in omega arith)

pub returns-clause-numbered : goal.returns-clause-numbered
returns-clause-numbered c =
    let least = c.args.least.now in
    let state = c.args.state in
    numbered_more least (state + 1) state c.requires.next c.requires.numbered (λ z. absurd (c.if-class-eq0.false z))
    (λ ne. (state, add-one state, (omega arith), last_number least (state + 1) state c.requires.next ∙ add-one state, refl))
    (λ e r f same. c.find-found.ensures.none c.if-found-ne0.false r f same)

pub returns-clause-buckets : goal.returns-clause-buckets
returns-clause-buckets c =
    let least = c.args.least.now in
    let state = c.args.state in
    let classes = c.args.classes.now in
    let heads = c.args.heads.now.items in
    let count : c.len.result ≡ length heads = (let x = c.len.ensures in omega arith) in
    let bucket : slice_index classes state % c.len.result ≡ bucket_of classes (length heads) state = ap (λ n. slice_index classes state % n) count in
    let within : slice_index classes state % c.len.result < length heads =
    subst (λ x. x < length heads) (sym bucket) (own_within least (state + 1) state c.requires.next c.requires.buckets (add-one state) c.requires.within) in
    buckets_put least (state + 1) state c.requires.next c.requires.buckets (add-one state) c.requires.within
    (slice_index classes state % c.len.result) c.index.result.now bucket
    (c.index.ensures ∙ get_or_default heads (slice_index classes state % c.len.result) c.index.result.now 0 within ∙ ap (slice_index heads) bucket)
