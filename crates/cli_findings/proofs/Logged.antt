-- A log holds no float, and nests no deeper than a parser of the kit reads.
use Rattle.std.proofs.Common.{◌≡◌, ◌≤◌, ℕ, Bool, true, false, ◌||◌, List, [], ◌∷◌, ◌++◌, map, if◌then◌else◌, Option, Some, None, refl, arith}
use Rattle.serde_json.specs.Data.{Data, depth, items_depth}
use Rattle.serde_json.specs.Read.{max_depth}
use Rattle.serde_json.specs.declared.value.Value.{Value}
use Rattle.serde_json.specs.View.{view, items_of}
use Rattle.serde_json.specs.Written.{has_float, items_have_float}
use Rattle.scr_layout.specs.Layout.{Declaration}
use Rattle.scr_check.specs.declared.origins.Origin.{Origin}
use Rattle.scr_check.specs.declared.traced.Traced.{Traced}
use Rattle.cli_commands.specs.declared.fault.Fault.{Fault}
use Rattle.cli_commands.specs.Fault.{fault_text}
use Rattle.cli_findings.specs.declared.region.Columns.{Columns}
use Rattle.cli_findings.specs.declared.region.Region.{Region}
use Rattle.cli_findings.specs.declared.found.Pen.{Pen}
use Rattle.cli_findings.specs.declared.rule.Rule.{Rule}
use Rattle.cli_findings.specs.declared.rule.Rule.TheVariants.{InputRefused}
use Rattle.cli_findings.specs.Region.{Standing, finding_region, order_region}
use Rattle.cli_findings.specs.Rule.{rules_for, rule_of}
use Rattle.cli_findings.specs.Results.{named_result}
use Rattle.cli_findings.specs.Sarif.{named_rule, rule_data, rules_data_for, tool_data, columns_region, end_data, result_data, message_of, end_of, finding_result, findings_data, refusal_results, log_data}

-- ---- lists

pub none_floats : {X : Type 0} (f : X → Data) → ((x : X) → has_float (f x) ≡ false) → (xs : List X) → items_have_float (items_of (map f xs)) ≡ false
none_floats f none [] = refl
none_floats f none (x ∷ xs) = rw (none x) (none_floats f none xs)

pub all_nest : {X : Type 0} (f : X → Data) (n : ℕ) → ((x : X) → depth (f x) ≤ n) → (xs : List X) → items_depth (items_of (map f xs)) ≤ n
all_nest f n nests [] = omega arith
all_nest f n nests (x ∷ xs) = omega (arith, nests x, all_nest f n nests xs)

pub both_plain : (a b : List Data) → items_have_float (items_of a) ≡ false → items_have_float (items_of b) ≡ false → items_have_float (items_of (a ++ b)) ≡ false
both_plain [] b first second = second
both_plain (x ∷ a) b first second = grind (arith, both_plain a b)

pub both_nest : (n : ℕ) (a b : List Data) → items_depth (items_of a) ≤ n → items_depth (items_of b) ≤ n → items_depth (items_of (a ++ b)) ≤ n
both_nest n [] b first second = second
both_nest n (x ∷ a) b first second = omega (arith, first, both_nest n a b (omega (arith, first)) second)

-- ---- the program

pub named_rule_plain : (id name brief meaning help : List ℕ) → has_float (named_rule id name brief meaning help) ≡ false
unfolding named_rule
named_rule_plain id name brief meaning help = refl

pub named_rule_nests : (id name brief meaning help : List ℕ) → depth (named_rule id name brief meaning help) ≤ 2
unfolding named_rule
named_rule_nests id name brief meaning help = omega arith

rule_plain : (rule : Rule) → has_float (rule_data rule) ≡ false
rule_plain rule = named_rule_plain _ _ _ _ _

rule_nests : (rule : Rule) → depth (rule_data rule) ≤ 2
rule_nests rule = named_rule_nests _ _ _ _ _

pub rules_plain : (pen : Pen) → items_have_float (items_of (rules_data_for pen)) ≡ false
rules_plain pen = none_floats rule_data rule_plain (rules_for pen)

pub rules_nest : (pen : Pen) → items_depth (items_of (rules_data_for pen)) ≤ 2
rules_nest pen = all_nest rule_data 2 rule_nests (rules_for pen)

pub tool_plain : (rules : List Data) → items_have_float (items_of rules) ≡ false → has_float (tool_data rules) ≡ false
unfolding tool_data
tool_plain rules plain = rw plain refl

tool_nests : (rules : List Data) → items_depth (items_of rules) ≤ 2 → depth (tool_data rules) ≤ 5
unfolding tool_data
tool_nests rules flat = omega (arith, flat)

-- ---- a result

pub region_plain : (line : ℕ) (columns : Option Columns) → has_float (columns_region line columns) ≡ false
region_plain line None = refl
region_plain line (Some columns) = refl

pub region_nests : (line : ℕ) (columns : Option Columns) → depth (columns_region line columns) ≤ 1
region_nests line None = omega arith
region_nests line (Some columns) = omega arith

result_plain : (rule : Rule) (path : List ℕ) (region : Region) (text : List ℕ) → has_float (result_data rule path region text None) ≡ false
unfolding result_data
result_plain rule path region text = rw (region_plain region.line region.columns) refl

related_plain : (rule : Rule) (path : List ℕ) (region : Region) (text : List ℕ) (ends : Region)
    → has_float (result_data rule path region text (Some (end_data path ends))) ≡ false
unfolding result_data
related_plain rule path region text ends = rw (region_plain region.line region.columns, region_plain ends.line ends.columns) refl

result_nests : (rule : Rule) (path : List ℕ) (region : Region) (text : List ℕ) → depth (result_data rule path region text None) ≤ 6
unfolding result_data
result_nests rule path region text = omega (arith, region_nests region.line region.columns)

related_nests : (rule : Rule) (path : List ℕ) (region : Region) (text : List ℕ) (ends : Region)
    → depth (result_data rule path region text (Some (end_data path ends))) ≤ 6
unfolding result_data
related_nests rule path region text ends = omega (arith, region_nests region.line region.columns, region_nests ends.line ends.columns)

ended_plain : (rule : Rule) (path : List ℕ) (region : Region) (text : List ℕ) (standing : Standing) (end : Option Origin)
    → has_float (result_data rule path region text (end_of path standing end)) ≡ false
ended_plain rule path region text standing None = result_plain rule path region text
ended_plain rule path region text standing (Some origin) = related_plain rule path region text (order_region standing origin)

ended_nests : (rule : Rule) (path : List ℕ) (region : Region) (text : List ℕ) (standing : Standing) (end : Option Origin)
    → depth (result_data rule path region text (end_of path standing end)) ≤ 6
ended_nests rule path region text standing None = result_nests rule path region text
ended_nests rule path region text standing (Some origin) = related_nests rule path region text (order_region standing origin)

pub finding_is_plain : (front path : List ℕ) (layout : Declaration) (standing : Standing) (traced : Traced) → has_float (finding_result front path layout standing traced) ≡ false
finding_is_plain front path layout standing traced =
    ended_plain (rule_of traced.finding) path (finding_region standing traced) (message_of front layout traced) standing traced.end

pub finding_is_flat : (front path : List ℕ) (layout : Declaration) (standing : Standing) (traced : Traced) → depth (finding_result front path layout standing traced) ≤ 6
finding_is_flat front path layout standing traced =
    ended_nests (rule_of traced.finding) path (finding_region standing traced) (message_of front layout traced) standing traced.end

pub findings_plain : (front path : List ℕ) (layout : Declaration) (standing : Standing) (findings : List Traced)
    → has_float (findings_data front path layout standing findings) ≡ false
findings_plain front path layout standing findings = none_floats (finding_result front path layout standing) (finding_is_plain front path layout standing) findings

pub findings_nest : (front path : List ℕ) (layout : Declaration) (standing : Standing) (findings : List Traced)
    → depth (findings_data front path layout standing findings) ≤ 8
findings_nest front path layout standing findings =
    let few : items_depth (items_of (map (finding_result front path layout standing) findings)) ≤ 6 =
    all_nest (finding_result front path layout standing) 6 (finding_is_flat front path layout standing) findings
    in omega (arith, few)

pub refusal_plain : (path : List ℕ) (line : ℕ) (fault : Fault) → has_float (refusal_results path line fault) ≡ false
refusal_plain path line fault = rw (result_plain InputRefused path (record { line = line; columns = None }) (fault_text fault)) refl

pub refusal_nests : (path : List ℕ) (line : ℕ) (fault : Fault) → depth (refusal_results path line fault) ≤ 8
refusal_nests path line fault = omega (arith, result_nests InputRefused path (record { line = line; columns = None }) (fault_text fault))

pub named_plain : (id : List ℕ) (index : ℕ) (path : List ℕ) (region : Region) (text : List ℕ) → has_float (named_result id index path region text) ≡ false
unfolding named_result
named_plain id index path region text = rw (region_plain region.line region.columns) refl

pub named_nests : (id : List ℕ) (index : ℕ) (path : List ℕ) (region : Region) (text : List ℕ) → depth (named_result id index path region text) ≤ 6
unfolding named_result
named_nests id index path region text = omega (arith, region_nests region.line region.columns)

-- ---- results one after the other

-- the first of some, and the others
pub head_plain : (value : Data) (items : List Data) → items_have_float (items_of (value ∷ items)) ≡ false → (has_float value ≡ false) × (items_have_float (items_of items) ≡ false)
head_plain value items plain =
    elim (has_float value) as (λ b. (b || items_have_float (items_of items)) ≡ false → (b ≡ false) × (items_have_float (items_of items) ≡ false)) [
      | true ↦ λ is. cc
      | false ↦ λ is. (refl, is)
    ] plain

pub head_nests : (n : ℕ) (value : Data) (items : List Data) → items_depth (items_of (value ∷ items)) ≤ n → (depth value ≤ n) × (items_depth (items_of items) ≤ n)
head_nests n value items flat = (omega (arith, flat), omega (arith, flat))

-- one more, or the same where memory was refused
pub plain_more : (b : Bool) (values : List Value) (value : Value) → items_have_float (items_of (map view values)) ≡ false → has_float (view value) ≡ false
    → items_have_float (items_of (map view (if b then values ++ value ∷ [] else values))) ≡ false
plain_more false values value plain one = plain
plain_more true [] value plain one = rw one refl
plain_more true (x ∷ values) value plain one =
    let both : (has_float (view x) ≡ false) × (items_have_float (items_of (map view values)) ≡ false) = head_plain (view x) (map view values) plain in
    rw (both.0) (plain_more true values value both.1 one)

pub flat_more : (b : Bool) (values : List Value) (value : Value) → items_depth (items_of (map view values)) ≤ 6 → depth (view value) ≤ 6
    → items_depth (items_of (map view (if b then values ++ value ∷ [] else values))) ≤ 6
flat_more false values value flat one = flat
flat_more true [] value flat one = omega (arith, one)
flat_more true (x ∷ values) value flat one =
    let both : (depth (view x) ≤ 6) × (items_depth (items_of (map view values)) ≤ 6) = head_nests 6 (view x) (map view values) flat in
    omega (arith, both.0, flat_more true values value both.1 one)

-- ---- the log

pub log_plain : (rules : List Data) (results : Data) → items_have_float (items_of rules) ≡ false → has_float results ≡ false → has_float (log_data rules results) ≡ false
unfolding log_data
log_plain rules results ruled plain = rw (plain, tool_plain rules ruled) refl

pub log_nests : (rules : List Data) (results : Data) → items_depth (items_of rules) ≤ 2 → depth results ≤ 8 → depth (log_data rules results) ≤ max_depth
unfolding log_data
log_nests rules results ruled flat = omega (arith, flat, tool_nests rules ruled)
