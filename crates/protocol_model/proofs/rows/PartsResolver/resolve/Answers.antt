use Rattle.std.proofs.Common.{◌≡◌, true, false, [], None, Some, cond, map, refl, ap, sym, ◌∙◌}
use Rattle.std.specs.Str.{bytes_eq}
use Rattle.std.specs.Option.{option_or}
use Rattle.std.proofs.lemmas.Result.{err_from_is_err_and}
use Rattle.protocol_model.specs.declared.fault.ModelFault.TheVariants.{Duplicate, Unknown}
use Rattle.protocol_model.specs.Numbering.{section_names, letters_named}
use Rattle.protocol_model.specs.Faults.{is_among, unknown, duplicate, base_fault, first_fault_of}
use Rattle.protocol_model.proofs.Lists.{list_any_map}
use Rattle.protocol_model.proofs.Known.{fault_where_true, or_left, or_right, or_none}
use Rattle.protocol_model.proofs.rows.PartsResolver.resolve.Goals as goal

pub returns-then-is_named : goal.returns-then-is_named
returns-then-is_named c =
    let sections = c.args.self.now.0.now in
    let name = c.args.part.now.section in
    let earlier = map (λ before. before.section.text) c.args.earlier.now in
    let known : unknown (section_names sections) name ≡ None =
    ap (λ b. cond b None (Some (Unknown name))) c.in-Some.ensures.found.known in
    let among : is_among earlier name ≡ true =
    list_any_map (bytes_eq name.text) (λ before. before.section.text) c.args.earlier.now ∙ sym c.is_named.ensures ∙ c.if-is_named.true in
    let atoms = first_fault_of (λ _ atom. base_fault (letters_named sections name) atom.base) [] c.args.part.now.atoms in
    or_right (unknown (section_names sections) name) (option_or (duplicate earlier name) atoms) c.duplicate_name.result known
    (or_left (duplicate earlier name) atoms c.duplicate_name.result
    (fault_where_true (is_among earlier name) (Duplicate name) c.duplicate_name.result among c.duplicate_name.ensures))

pub returns-in_err-atoms : goal.returns-in_err-atoms
returns-in_err-atoms c =
    let sections = c.args.self.now.0.now in
    let name = c.args.part.now.section in
    let earlier = map (λ before. before.section.text) c.args.earlier.now in
    let known : unknown (section_names sections) name ≡ None =
    ap (λ b. cond b None (Some (Unknown name))) c.in-Some.ensures.found.known in
    let among : is_among earlier name ≡ false =
    list_any_map (bytes_eq name.text) (λ before. before.section.text) c.args.earlier.now ∙ sym c.is_named.ensures ∙ c.if-is_named.false in
    let fresh : duplicate earlier name ≡ None = ap (λ b. cond b (Some (Duplicate name)) None) among in
    let atoms = first_fault_of (λ _ atom. base_fault (letters_named sections name) atom.base) [] c.args.part.now.atoms in
    let p = err_from_is_err_and c.from_residual.result c.from_residual.ensures.1 in
    rw (p.1, p.2)
    (or_right (unknown (section_names sections) name) (option_or (duplicate earlier name) atoms) c.in_err-atoms.field-0.0 known
    (or_right (duplicate earlier name) atoms c.in_err-atoms.field-0.0 fresh
    (rw (c.in-Some.ensures.found.with_letters, c.as_slice.ensures) at c.in_err-atoms.ensures)))

pub returns : goal.returns
returns c =
    let sections = c.args.self.now.0.now in
    let name = c.args.part.now.section in
    let earlier = map (λ before. before.section.text) c.args.earlier.now in
    let known : unknown (section_names sections) name ≡ None =
    ap (λ b. cond b None (Some (Unknown name))) c.in-Some.ensures.found.known in
    let among : is_among earlier name ≡ false =
    list_any_map (bytes_eq name.text) (λ before. before.section.text) c.args.earlier.now ∙ sym c.is_named.ensures ∙ c.if-is_named.false in
    let fresh : duplicate earlier name ≡ None = ap (λ b. cond b (Some (Duplicate name)) None) among in
    let atoms = first_fault_of (λ _ atom. base_fault (letters_named sections name) atom.base) [] c.args.part.now.atoms in
    let done = rw (c.in-Some.ensures.found.with_letters, c.as_slice.ensures) at c.in_ok-atoms.ensures in (
      or_none (unknown (section_names sections) name) (option_or (duplicate earlier name) atoms) known
          (or_none (duplicate earlier name) atoms fresh done.0),
      rw (c.in-Some.ensures.found.numbered, done.1) refl,
    )
