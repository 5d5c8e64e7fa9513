use Rattle.std.proofs.Common.{◌≡◌, ◌≤◌, false, List, map, sym, subst}
use Rattle.std.specs.Global.{Vec}
use Rattle.serde_json.specs.declared.value.Value.{Value}
use Rattle.serde_json.specs.Data.{Data, items_depth}
use Rattle.serde_json.specs.View.{view, items_of}
use Rattle.serde_json.specs.Written.{items_have_float}
use Rattle.cli_maps.specs.Sarif.{results_of}
use Rattle.cli_maps.specs.Told.{all_results}
use Rattle.cli_maps.proofs.Folds.{results_next, results_stop}
use Rattle.cli_findings.proofs.Logged.{both_nest, both_plain}
use Rattle.cli_maps.proofs.Logged.{results_nest, results_plain}
use Rattle.cli_maps.proofs.each.all_results.Goals as goal

pub loop-map-preserved : goal.loop-map-preserved
loop-map-preserved c =
    let lines = map (λ line. line.now) c.args.lines.now in
    let before : List Data = map view c.loop-map.results.items in
    let more = c.in_ok-push_results-in-Ok.ensures in
    record {
      results = results_next c.args.path.now lines c.args.control c.args.maps.now c.loop-map.map-index c.map-item.result before (map view c.push_results.new.results.items)
          c.in-Ok.judged (all_results c.args.path.now lines c.args.control c.args.maps.now) c.loop-map-test.true c.map-item.is c.in-Ok.ensures more c.loop-map.invariant.results;
      plain = subst (λ (list : List Data). items_have_float (items_of list) ≡ false) (sym more)
          (both_plain before (results_of c.args.path.now lines c.map-item.result c.in-Ok.judged) c.loop-map.invariant.plain
          (results_plain c.args.path.now lines c.map-item.result c.in-Ok.judged));
      flat = subst (λ (list : List Data). items_depth (items_of list) ≤ 6) (sym more)
          (both_nest 6 before (results_of c.args.path.now lines c.map-item.result c.in-Ok.judged) c.loop-map.invariant.flat
          (results_nest c.args.path.now lines c.map-item.result c.in-Ok.judged));
    }

pub returns-in-Err-clause-results : goal.returns-in-Err-clause-results
returns-in-Err-clause-results c =
    let lines = map (λ line. line.now) c.args.lines.now in
    results_stop (λ (values : Vec Value). map view values.items) c.args.path.now lines c.args.control c.args.maps.now c.loop-map.map-index c.map-item.result
    (map view c.loop-map.results.items) c.in-Err.error (all_results c.args.path.now lines c.args.control c.args.maps.now)
    c.loop-map-test.true c.map-item.is c.in-Err.ensures c.loop-map.invariant.results
