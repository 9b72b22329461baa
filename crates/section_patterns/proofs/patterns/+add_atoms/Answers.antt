use Rattle.std.proofs.Common.{◌-◌, length, take, drop, subst}
use Rattle.protocol_model.specs.Patterns.{atoms_match}
use Rattle.section_patterns.specs.private.Languages.{AcceptsFrom, IsAdded}
use Rattle.section_patterns.specs.private.Lists.{BeginsWithList}
use Rattle.section_patterns.proofs.ListLemmas.{first_and_rest}
use Rattle.section_patterns.proofs.PatternLemmas.{atoms_more}
use Rattle.section_patterns.proofs.patterns.+add_atoms.Goals as goal

pub returns-in_ok-state-in-len1-up : goal.returns-in_ok-state-in-len1-up
returns-in_ok-state-in-len1-up t c =
    let atoms = c.args.atoms.now in
    let state = c.in_ok-state-in-len1-up.state in
    subst (λ xs. IsAdded c.args.builder.now c.add_atom.new.builder state (BeginsWithList (atoms_match xs) c.args.offset (AcceptsFrom c.args.builder.now c.args.next)))
    (first_and_rest atoms c.atom-item.result c.in-len1-up.len_at_least c.atom-item.is)
    (atoms_more c.args.builder.now c.add_atoms.new.builder c.add_atom.new.builder c.in_ok-behind-in-len1-up.behind state c.args.next c.args.offset
    c.atom-item.result (take (length atoms - 1) (drop 1 atoms)) c.in_ok-behind-in-len1-up.ensures c.in_ok-state-in-len1-up.ensures)
