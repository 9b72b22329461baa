use Rattle.std.proofs.Common.{◌≡◌, true, Some, length, ◌<◌, refl, get_or, slice_get}
use Rattle.std.specs.Str.{bytes_eq}
use Rattle.std.specs.List.{list_any, position_or_len}
use Rattle.std.proofs.lemmas.List.{get_or-map}
use Rattle.std.proofs.lemmas.Option.{slice_get-get_or}
use Rattle.protocol_model.specs.Numbering.{texts_of, section_names, number_of}
use Rattle.protocol_model.specs.Faults.{is_among}
use Rattle.protocol_model.proofs.Lists.{length_map}
use Rattle.protocol_model.proofs.Known.{some_of_cond, number_below}
use Rattle.protocol_model.proofs.sections.Sections.find.Goals as goal
use Rattle.protocol_model.proofs.sections.Sections.find.Goals.{In_ok-number}

found : (c : In_ok-number) →
    (is_among (section_names c.self.inside.texts.now) c.args.name.now ≡ true)
    × (c.in_ok-number.number ≡ number_of (section_names c.self.inside.texts.now) c.args.name.now)
found c =
    rw (← c.self.invariant.0, ← c.as_str.ensures)
    (some_of_cond (list_any (bytes_eq c.as_str.result.now) c.self.inside.numbers) c.in_ok-number.number
    (position_or_len (bytes_eq c.as_str.result.now) c.self.inside.numbers) c.in_ok-number.ensures)

within : (c : In_ok-number) → c.in_ok-number.number < length c.self.inside.texts.now
within c =
    let f = found c in
    rw (f.1, ← length_map (λ section. section.name.text) c.self.inside.texts.now)
    (number_below (bytes_eq c.args.name.now.text) (section_names c.self.inside.texts.now) f.0)

pub bounds-self-inside-number : goal.bounds-self-inside-number
bounds-self-inside-number c = within c

pub index-requires : goal.index-requires
index-requires c =
    rw (c.self.inside.letters.ok.0, c.self.invariant.1, length_map (λ section. texts_of section.letters) c.self.inside.texts.now)
    (within (goal.at.index-requires c).In_ok-number)

pub returns-clause-found : goal.returns-clause-found
returns-clause-found c =
    let f = found (goal.at.returns-clause-found c).In_ok-number in
    let w = within (goal.at.returns-clause-found c).In_ok-number in
    let texts = c.self.inside.texts.now in
    let n = c.in_ok-number.number in
    let there : slice_get texts n ≡ Some (get_or texts n c.index-self-number.result) = slice_get-get_or texts n c.index-self-number.result w in
    rw (← c.self.view_is)
    record {
      known = f.0;
      numbered = f.1;
      of_kind = rw (← f.1, there) refl;
      with_letters =
          rw (
            ← f.1,
            there,
            c.index.ensures,
            c.self.invariant.1,
            get_or-map (λ section. texts_of section.letters) texts n c.index-self-number.result c.index.result.now w,
          ) refl;
    }
