use Rattle.std.proofs.Common.{ℕ, List, [], ◌∷◌, sym, ap, arith}
use Rattle.tn_wire.specs.declared.open_token.Open.TheVariants.{Escape, Command, Start}
use Rattle.tn_wire.specs.Telnet.{record_end}
use Rattle.std.proofs.lemmas.Bool.{false≢true, false_from_ne_true}
use Rattle.tn_wire.specs.Verbs.{is_verb}
use Rattle.tn_wire.proofs.Bytes.{goes_on, data_taken, passed_taken, partial_state}
use Rattle.tn_wire.proofs.Steps.{completes}
use Rattle.tn_wire.proofs.open_token.take_escaped.Goals as goal

pub returns-in-255-clause-takes : goal.returns-in-255-clause-takes
returns-in-255-clause-takes c ps =
    data_taken c.args.kept.now.items [] c.args.byte c.requires.limit (omega arith) Escape 255 c.push_data.new.kept.items ps
    c.push_data.result (ap (λ z. 255 ∷ z ∷ []) c.in-255.is) c.push_data.ensures.fits c.push_data.ensures.full

pub returns-in-239-clause-takes : goal.returns-in-239-clause-takes
returns-in-239-clause-takes c ps =
    let d : List ℕ = c.args.kept.now.items in
    completes d (255 ∷ []) c.args.byte c.requires.limit (partial_state d [] Escape (omega arith)) record_end tt
    (ap (λ z. 255 ∷ z ∷ []) c.in-239.is)

pub returns-in-250-clause-takes : goal.returns-in-250-clause-takes
returns-in-250-clause-takes c ps =
    goes_on c.args.kept.now.items [] c.args.byte c.requires.limit (omega arith) Escape Start (ap (λ z. 255 ∷ z ∷ []) c.in-250.is)

pub returns-in-Some-clause-takes : goal.returns-in-Some-clause-takes
returns-in-Some-clause-takes c ps =
    goes_on c.args.kept.now.items [] c.args.byte c.requires.limit (omega arith) Escape (Command c.in-Some.verb)
    (ap (λ z. 255 ∷ z ∷ []) (sym c.in-Some.ensures.code))

pub returns-in-None-clause-takes : goal.returns-in-None-clause-takes
returns-in-None-clause-takes c ps =
    passed_taken c.args.kept.now.items c.args.byte c.requires.limit (λ e. omega arith) (λ e. omega arith) (λ e. omega arith)
    (false_from_ne_true (is_verb c.args.byte) (λ e. false≢true (c.in-None.ensures.found.1 e)))
