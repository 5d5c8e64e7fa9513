use Rattle.cli_offers.proofs.Listed.{are_those_judged, each_begin_is_judged, each_is_lawful, each_pair_ends_a_way, each_pair_is_judged}
use Rattle.cli_offers.proofs.laws.ways_law.Goals as goal

pub returns-clause-all : goal.returns-clause-all
returns-clause-all c = are_those_judged

pub returns-clause-lawful : goal.returns-clause-lawful
returns-clause-lawful c = each_is_lawful

pub returns-clause-begins : goal.returns-clause-begins
returns-clause-begins c = each_begin_is_judged

pub returns-clause-pairs : goal.returns-clause-pairs
returns-clause-pairs c = each_pair_is_judged

pub returns-clause-ends : goal.returns-clause-ends
returns-clause-ends c = each_pair_ends_a_way
