use Rattle.std.proofs.Common.{rules, tests, ◌≡◌, option_map}
use Rattle.std.proofs.lemmas.Iterator.{YieldsList-from_slice}
use Rattle.std.proofs.lemmas.Iterator.Search.{find_from_yields_List}
use Rattle.std.specs.List.{find}
use Rattle.std.specs.Str.{bytes_eq}
use Rattle.clap.proofs.WalkLemmas.{find-map}
use Rattle.command_words.specs.Parsing.{form_as_words}
use Rattle.command_words.proofs.forms.form_among.Goals as goal

pub returns : goal.returns
returns c =
    let word = c.args.word.now in
    let found : option_map (λ form. form.now) c.find.result ≡ find (λ form. bytes_eq form.1.now word) c.args.forms.now =
    find_from_yields_List (λ form. bytes_eq form.1.now word) _ _ c.find.result c.find.ensures.ran (YieldsList-from_slice c.args.forms.now (cc))
    (λ x b q k. search (rules, tests)) in
    grind (rules, found, find-map (λ form. bytes_eq form.word word) form_as_words c.args.forms.now)
