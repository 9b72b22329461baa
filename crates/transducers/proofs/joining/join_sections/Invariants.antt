use Rattle.std.proofs.Common.{◌≡◌, ◌↔◌, ℕ, List, drop}
use Rattle.transducers.specs.Transducer.{Relates}
use Rattle.transducers.specs.Joining.{RelatesJoined, letters_of}
use Rattle.transducers.proofs.joining.join_sections.Given as goal

abbrev pub invariant-parts : goal.invariant-parts
invariant-parts l = record {
  letters : l.joined.letters ≡ letters_of l.parts;
  related : (u w : List ℕ) → Relates l.joined u w ↔ RelatesJoined l.separator (drop l.k l.parts) u w;
}
