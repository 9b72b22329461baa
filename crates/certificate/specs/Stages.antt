-- What the lines of a certificate do: what was read before a line, and what is read after it or is wrong with it.
use Rattle.std.specs.Prelude.{◌==◌, ◌&&◌, ℕ, Bool, true, false, List, [], ◌∷◌, ◌++◌, length, nat_lt, get_or, if◌then◌else◌}
use Rattle.std.specs.List.{list_any, list_all}
use Rattle.protocol_model.specs.declared.system.Configuration.{Configuration}
use Rattle.protocol_model.specs.System.{SystemData}
use Rattle.protocol_model.specs.Patterns.{fits}
use Rattle.protocol_model.specs.Words.{automata_letters}
use Rattle.lines.specs.Document.{Document, Effect, leads, ends, wrong}
use Rattle.certificate.specs.declared.said.Kind.{Kind}
use Rattle.certificate.specs.declared.said.Kind.TheVariants.{Safe, Unsafe, Unknown}
use Rattle.certificate.specs.declared.said.Place.{Place}
use Rattle.certificate.specs.declared.said.Place.TheVariants as At
use Rattle.certificate.specs.declared.said.Said.{Said}
use Rattle.certificate.specs.declared.said.Said.TheVariants.{Title, Letter, States, Final, Edge, Edges, End, Start, Step}
use Rattle.certificate.specs.declared.said.What.{What}
use Rattle.certificate.specs.declared.said.What.TheVariants.{Version, NothingToVerify, TooMany, UnknownName, TwoLetters, OutOfRange, TwoEdges}
use Rattle.certificate.specs.AutomatonLines.{Line}
use Rattle.certificate.specs.AutomatonLines as L
use Rattle.certificate.specs.Lines.{line_at}

-- what was read: where the next line stands; the letters that have lines, the number of states, the accepting states and edges; and the
-- first configuration and the steps of a run
pub record Stage : Type 0 where
  pub place : Place
  pub letters : List ℕ
  pub count : ℕ
  pub lines : List Line
  pub first : Configuration
  pub steps : List (ℕ × Configuration)

abbrev pub beginning : Stage
beginning = record { place = At.Title; letters = []; count = 0; lines = []; first = record { lists = [] }; steps = [] }

-- where the next line stands after a first line
abbrev pub titled : ℕ → Kind → Effect Place What
titled n Safe = if n == 1 then leads At.States else (if n == 2 then leads At.Letters else wrong Version)
titled n Unsafe = if n == 1 then leads At.Start else wrong Version
titled n Unknown = if n == 1 then wrong NothingToVerify else wrong Version

abbrev pub then_at : Stage → Effect Place What → Effect Stage What
then_at t (leads place) = leads (record t { place = place })
then_at t ends = ends
then_at t (wrong w) = wrong w

abbrev pub with_letter : SystemData → Stage → ℕ → Effect Stage What
with_letter s t a =
    if nat_lt a (automata_letters s)
    then (if list_any (λ b. b == a) t.letters then wrong TwoLetters else leads (record t { letters = t.letters ++ a ∷ [] }))
    else wrong UnknownName

-- where the next line stands after the number of states
abbrev pub after_states : Place → Place
after_states At.Letters = At.IndexedEdges
after_states _ = At.NamedEdges

abbrev pub with_states : Stage → ℕ → Effect Stage What
with_states t n = if nat_lt 1000000 n then wrong TooMany else leads (record t { place = after_states t.place; count = n; lines = [] })

abbrev pub with_line : Stage → Line → Stage
with_line t line = record t { lines = t.lines ++ line ∷ [] }

-- the line is an edge with this source and letter
abbrev pub is_edge_of : ℕ → ℕ → Line → Bool
is_edge_of p a (L.Final q) = false
is_edge_of p a (L.Edge p' a' q) = (p' == p) && (a' == a)
is_edge_of p a (L.Edges p' q indices) = false

-- an edge is added, unless its letter is not there, it is out of range, or there is one with its source and
-- letter
abbrev pub with_edge : SystemData → Stage → ℕ → ℕ → ℕ → Effect Stage What
with_edge s t p a q =
    if nat_lt a (automata_letters s)
    then
    (if nat_lt p t.count && nat_lt q t.count
    then (if list_any (is_edge_of p a) t.lines then wrong TwoEdges else leads (with_line t (L.Edge p a q)))
    else wrong OutOfRange)
    else wrong UnknownName

-- and then another thing is done
abbrev pub follow : Effect Stage What → (Stage → Effect Stage What) → Effect Stage What
follow (leads t) next = next t
follow ends next = ends
follow (wrong w) next = wrong w

-- edges are added, one for the letter of each index
abbrev pub with_edges : SystemData → Stage → ℕ → ℕ → List ℕ → Effect Stage What
with_edges s t p q [] = leads t
with_edges s t p q (i ∷ is) = follow (with_edge s t p (get_or t.letters i 0) q) (λ u. with_edges s u p q is)

-- what a line does that says this
abbrev pub effect : SystemData → Stage → Said → Effect Stage What
effect s t (Title n k) = then_at t (titled n k)
effect s t (Letter a) = with_letter s t a
effect s t (States n) = with_states t n
effect s t (Final q) = if nat_lt q t.count then leads (with_line t (L.Final q)) else wrong OutOfRange
effect s t (Edge p a q) = with_edge s t p a q
effect s t (Edges p q is) =
    if nat_lt p t.count && nat_lt q t.count && list_all (λ i. nat_lt i (length t.letters)) is
    then with_edges s t p q is
    else wrong OutOfRange
effect s t End = ends
effect s t (Start c) = if fits s c then leads (record t { place = At.Steps; first = c }) else wrong UnknownName
effect s t (Step r c) =
    if nat_lt r (length s.rules) && fits s c then leads (record t { steps = t.steps ++ (r, c) ∷ [] }) else wrong UnknownName

-- certificates for a system
abbrev pub certificate : SystemData → Document Stage Said What
certificate s = record { start = beginning; line = λ t. line_at s t.place; effect = effect s }

-- the lines are those of a run
abbrev pub is_run : Place → Bool
is_run At.Steps = true
is_run _ = false
