use Rattle.std.proofs.Common.{◌≡◌, ◌≤◌, length, drop}
use Rattle.std.specs.List.{list_all, AllByRecursion}
use Rattle.protocol_syntax.specs.declared.limits.TheConstants.{MAX_ATOMS}
use Rattle.protocol_model.specs.Patterns.{row_matches, atoms_match, list_at}
use Rattle.protocol_steps.proofs.rows.row_matches.Given as goal

-- whether the row matches is decided by the parts that are left
abbrev pub invariant-parts : goal.invariant-parts
invariant-parts l =
    (row_matches l.c l.row ≡ list_all (λ part. atoms_match part.1.atoms (list_at l.c part.0)) (drop l.part-index l.row.parts))
    × AllByRecursion (λ part. length part.1.atoms ≤ MAX_ATOMS) (drop l.part-index l.row.parts)
