-- What the words of `tap` ask for.
use Rattle.std.specs.Prelude.{List, codes}
use Rattle.clap.specs.Words.{Row}
use Rattle.cli_words.specs.declared.tap.TapAsked.{TapAsked}
use Rattle.cli_words.specs.Values.{IsPath, IsText, IsNumber}

abbrev pub IsTap : List Row → TapAsked → Type 0
IsTap rows asked = IsText (codes "HOST") rows asked.host × IsNumber (codes "port") rows asked.port × IsText (codes "listen") rows asked.listen
    × IsNumber (codes "listen-port") rows asked.listen_port × IsNumber (codes "count") rows asked.count
    × IsPath (codes "layouts") rows asked.layouts × IsPath (codes "out") rows asked.out
