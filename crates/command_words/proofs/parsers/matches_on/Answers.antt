use Rattle.std.proofs.Common.{◌≡◌, [], ◌∷◌, inl, inr, ◌∙◌}
use Rattle.clap.specs.Kinds.{HasKind, IsAmong, Kinds}
use Rattle.clap.specs.Values.{kind_of}
use Rattle.clap.specs.Simple.{app_of, is_simple}
use Rattle.clap.proofs.WalkLemmas.{both}
use Rattle.clap.specs.declared.error.Error.{Error}
use Rattle.clap.specs.declared.error.kind.ErrorKind.{ErrorKind}
use Rattle.clap.specs.declared.error.kind.ErrorKind.TheVariants.{OutOfMemory}
use Rattle.command_words.specs.Parsing.{Fails}
use Rattle.command_words.proofs.parsers.matches_on.Goals as goal

some_kind : (k : ErrorKind) (kinds : Kinds) → IsAmong k kinds → Fails kinds
some_kind k [] among = among
some_kind k (x ∷ xs) among = tt

fails : (kinds : Kinds) (e : Error) → HasKind kinds e → (kind_of e ≡ OutOfMemory → ⊥) → Fails kinds
fails kinds e has other = elim has [
  | inl memory ↦ absurd (other memory)
  | inr among ↦ some_kind (kind_of e) kinds among
]

pub returns-in-Ok : goal.returns-in-Ok
returns-in-Ok c =
    let h = c.in-Ok.ensures in
    record { refused = (h.kinds c.requires, (h.matches (both (is_simple (app_of c.args.parser)) _ c.requires).0).0) }

pub returns : goal.returns
returns c = record { refused = fails _ c.in-Err.error (c.in-Err.ensures.kinds c.requires) (λ memory. c.in_default.not-OutOfMemory (c.kind.ensures ∙ memory)) }
