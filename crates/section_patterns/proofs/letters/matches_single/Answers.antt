use Rattle.std.proofs.Common.{◌≤◌, IfSome, length, ap, subst, arith}
use Rattle.std.specs.Option.{option_copied}
use Rattle.protocol_syntax.specs.declared.limits.TheConstants.{MAX_ATOMS}
use Rattle.section_patterns.proofs.letters.matches_single.Goals as goal

pub atoms_match-requires : goal.atoms_match-requires
atoms_match-requires c =
    let few = subst (λ o. IfSome (option_copied o) (λ p. length p.atoms ≤ MAX_ATOMS)) c.in-Some.is c.requires in
    omega (arith, few, ap length c.as_slice.ensures)
