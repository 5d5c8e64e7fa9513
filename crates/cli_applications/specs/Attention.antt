-- The attention keys of a manifest.
use Rattle.std.specs.Prelude.{ℕ, List, [], ◌∷◌}
use Rattle.ds_codec.specs.Aid.{access_aid, function_aid}
use Rattle.cli_applications.specs.declared.fault.ManifestKey.{ManifestKey}
use Rattle.cli_applications.specs.declared.fault.ManifestKey.TheVariants.{Enter, Clear, Pa1, Pa2, Pa3, Pf1, Pf2, Pf3, Pf4, Pf5, Pf6, Pf7, Pf8, Pf9, Pf10, Pf11, Pf12, Pf13, Pf14, Pf15, Pf16, Pf17, Pf18, Pf19, Pf20, Pf21, Pf22, Pf23, Pf24}

-- the keys that can lead to a screen
abbrev pub attention_keys : List ManifestKey
attention_keys = Enter ∷ Clear ∷ Pa1 ∷ Pa2 ∷ Pa3 ∷ Pf1 ∷ Pf2 ∷ Pf3 ∷ Pf4 ∷ Pf5 ∷ Pf6 ∷ Pf7 ∷ Pf8 ∷ Pf9 ∷ Pf10 ∷ Pf11 ∷ Pf12 ∷ Pf13 ∷ Pf14 ∷ Pf15 ∷ Pf16 ∷ Pf17 ∷ Pf18 ∷ Pf19 ∷ Pf20 ∷ Pf21 ∷ Pf22 ∷ Pf23 ∷ Pf24 ∷ []

-- what each sends; what no key does is none
abbrev pub aid_of : ManifestKey → ℕ
aid_of Enter = 0x7D
aid_of Clear = 0x6D
aid_of Pa1 = access_aid 1
aid_of Pa2 = access_aid 2
aid_of Pa3 = access_aid 3
aid_of Pf1 = function_aid 1
aid_of Pf2 = function_aid 2
aid_of Pf3 = function_aid 3
aid_of Pf4 = function_aid 4
aid_of Pf5 = function_aid 5
aid_of Pf6 = function_aid 6
aid_of Pf7 = function_aid 7
aid_of Pf8 = function_aid 8
aid_of Pf9 = function_aid 9
aid_of Pf10 = function_aid 10
aid_of Pf11 = function_aid 11
aid_of Pf12 = function_aid 12
aid_of Pf13 = function_aid 13
aid_of Pf14 = function_aid 14
aid_of Pf15 = function_aid 15
aid_of Pf16 = function_aid 16
aid_of Pf17 = function_aid 17
aid_of Pf18 = function_aid 18
aid_of Pf19 = function_aid 19
aid_of Pf20 = function_aid 20
aid_of Pf21 = function_aid 21
aid_of Pf22 = function_aid 22
aid_of Pf23 = function_aid 23
aid_of Pf24 = function_aid 24
aid_of key = 0x60
