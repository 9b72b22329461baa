use Rattle.std.proofs.Common.{◌≡◌, Bool, true, false, Option, None, Some, cond, map, refl, ap, sym, ◌∙◌}
use Rattle.std.specs.Str.{bytes_eq}
use Rattle.std.specs.Option.{option_or}
use Rattle.std.proofs.lemmas.Result.{err_from_is_err_and}
use Rattle.protocol_model.proofs.Lists.{list_any_map}
use Rattle.protocol_model.proofs.Known.{fault_where_true, fault_where_false, or_left, or_right, or_none}
use Rattle.std.specs.Option.{option_map, option_map_or}
use Rattle.protocol_syntax.specs.declared.protocol.Kind.{Kind}
use Rattle.protocol_syntax.specs.declared.protocol.SectionText.{SectionText}
use Rattle.protocol_model.specs.declared.fault.ModelFault.TheVariants.{Unknown, TouchedTwice, WrongKind}
use Rattle.protocol_model.specs.Numbering.{section_names, section_named, letters_named}
use Rattle.protocol_model.specs.Faults.{is_among, unknown, touched_twice, wrong_kind, body_fault}
use Rattle.protocol_syntax.specs.MoveLetters.{belongs_to}
use Rattle.protocol_model.proofs.rules.StepsResolver.resolve.Goals as goal

-- the test of a kind, where the section is there
kind_test : (found : Option SectionText) (of : Kind → Bool) (kind : Kind) (b : Bool) →
    option_map (λ section. section.kind) found ≡ Some kind → of kind ≡ b →
    option_map_or (λ section. of section.kind) found false ≡ b
kind_test None of kind b e h = cc
kind_test (Some section) of kind b e h =
    let same : section.kind ≡ kind = cc in rw same h

pub returns-then-is_touched : goal.returns-then-is_touched
returns-then-is_touched c =
    let sections = c.args.self.now.0.now in
    let name = c.args.step.now.section in
    let earlier = map (λ before. before.section.text) c.args.earlier.now in
    let known : unknown (section_names sections) name ≡ None =
    ap (λ b. cond b None (Some (Unknown name))) c.in-Some.ensures.found.known in
    let among : is_among earlier name ≡ true =
    list_any_map (bytes_eq name.text) (λ before. before.section.text) c.args.earlier.now ∙ sym c.is_touched.ensures ∙ c.if-is_touched.true in
    let rest = option_or (wrong_kind sections c.args.step.now) (body_fault (letters_named sections name) c.args.step.now.body) in
    or_right (unknown (section_names sections) name) (option_or (touched_twice earlier name) rest) c.touched_twice_name.result known
    (or_left (touched_twice earlier name) rest c.touched_twice_name.result
    (fault_where_true (is_among earlier name) (TouchedTwice name) c.touched_twice_name.result among c.touched_twice_name.ensures))

pub returns-then-not-is_of_kind : goal.returns-then-not-is_of_kind
returns-then-not-is_of_kind c =
    let sections = c.args.self.now.0.now in
    let step = c.args.step.now in
    let name = step.section in
    let earlier = map (λ before. before.section.text) c.args.earlier.now in
    let known : unknown (section_names sections) name ≡ None =
    ap (λ b. cond b None (Some (Unknown name))) c.in-Some.ensures.found.known in
    let among : is_among earlier name ≡ false =
    list_any_map (bytes_eq name.text) (λ before. before.section.text) c.args.earlier.now ∙ sym c.is_touched.ensures ∙ c.if-is_touched.false in
    let fresh : touched_twice earlier name ≡ None = ap (λ b. cond b (Some (TouchedTwice name)) None) among in
    let body = body_fault (letters_named sections name) step.body in
    let test = option_map_or (λ section. belongs_to step.body section.kind) (section_named sections name) false in
    or_right (unknown (section_names sections) name) (option_or (touched_twice earlier name) (option_or (wrong_kind sections step) body)) c.wrong_kind_name.result known
    (or_right (touched_twice earlier name) (option_or (wrong_kind sections step) body) c.wrong_kind_name.result fresh
    (or_left (wrong_kind sections step) body c.wrong_kind_name.result
    (fault_where_false test (WrongKind name) c.wrong_kind_name.result
    (kind_test (section_named sections name) (belongs_to step.body) c.in-Some.found.kind false c.in-Some.ensures.found.of_kind
    (sym c.is_of_kind.ensures ∙ c.if-not-is_of_kind.true))
    c.wrong_kind_name.ensures)))

pub returns-in_err-body : goal.returns-in_err-body
returns-in_err-body c =
    let sections = c.args.self.now.0.now in
    let step = c.args.step.now in
    let name = step.section in
    let earlier = map (λ before. before.section.text) c.args.earlier.now in
    let known : unknown (section_names sections) name ≡ None =
    ap (λ b. cond b None (Some (Unknown name))) c.in-Some.ensures.found.known in
    let among : is_among earlier name ≡ false =
    list_any_map (bytes_eq name.text) (λ before. before.section.text) c.args.earlier.now ∙ sym c.is_touched.ensures ∙ c.if-is_touched.false in
    let fresh : touched_twice earlier name ≡ None = ap (λ b. cond b (Some (TouchedTwice name)) None) among in
    let body = body_fault (letters_named sections name) step.body in
    let right : wrong_kind sections step ≡ None =
    ap (λ b. cond b None (Some (WrongKind name)))
    (kind_test (section_named sections name) (belongs_to step.body) c.in-Some.found.kind true c.in-Some.ensures.found.of_kind
    (sym c.is_of_kind.ensures ∙ c.if-not-is_of_kind.false)) in
    let p = err_from_is_err_and c.from_residual.result c.from_residual.ensures.1 in
    rw (p.1, p.2)
    (or_right (unknown (section_names sections) name) (option_or (touched_twice earlier name) (option_or (wrong_kind sections step) body)) c.in_err-body.field-0.0 known
    (or_right (touched_twice earlier name) (option_or (wrong_kind sections step) body) c.in_err-body.field-0.0 fresh
    (or_right (wrong_kind sections step) body c.in_err-body.field-0.0 right
    (rw c.in-Some.ensures.found.with_letters at c.in_err-body.ensures))))

pub returns : goal.returns
returns c =
    let sections = c.args.self.now.0.now in
    let step = c.args.step.now in
    let name = step.section in
    let earlier = map (λ before. before.section.text) c.args.earlier.now in
    let known : unknown (section_names sections) name ≡ None =
    ap (λ b. cond b None (Some (Unknown name))) c.in-Some.ensures.found.known in
    let among : is_among earlier name ≡ false =
    list_any_map (bytes_eq name.text) (λ before. before.section.text) c.args.earlier.now ∙ sym c.is_touched.ensures ∙ c.if-is_touched.false in
    let fresh : touched_twice earlier name ≡ None = ap (λ b. cond b (Some (TouchedTwice name)) None) among in
    let body = body_fault (letters_named sections name) step.body in
    let right : wrong_kind sections step ≡ None =
    ap (λ b. cond b None (Some (WrongKind name)))
    (kind_test (section_named sections name) (belongs_to step.body) c.in-Some.found.kind true c.in-Some.ensures.found.of_kind
    (sym c.is_of_kind.ensures ∙ c.if-not-is_of_kind.false)) in
    let done = rw c.in-Some.ensures.found.with_letters at c.in_ok-body.ensures in (
      or_none (unknown (section_names sections) name) (option_or (touched_twice earlier name) (option_or (wrong_kind sections step) body)) known
          (or_none (touched_twice earlier name) (option_or (wrong_kind sections step) body) fresh
          (or_none (wrong_kind sections step) body right done.0)),
      rw (c.in-Some.ensures.found.numbered, done.1) refl,
    )
