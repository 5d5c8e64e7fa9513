-- The names of characters, those of X11.
use Rattle.std.specs.Prelude.{ℕ, ◌==◌, nat_lt, Bool, List, [], codes, Option, Some, None, if◌then◌else◌}
use Rattle.std.specs.List.{find}
use Rattle.std.specs.Str.{bytes_eq}
use Rattle.script_screens.specs.declared.key_name.TheConstants.{NAMED}

-- a space or of punctuation in ASCII
abbrev pub punctuation_name : ℕ → List ℕ
punctuation_name character =
    if character == 0x20 then codes "space" else (if character == 0x21 then codes "exclam" else (if character == 0x22 then codes "quotedbl" else (if character == 0x23 then codes "numbersign"
    else (if character == 0x24 then codes "dollar" else (if character == 0x25 then codes "percent" else (if character == 0x26 then codes "ampersand" else (if character == 0x27 then codes "apostrophe"
    else (if character == 0x28 then codes "parenleft" else (if character == 0x29 then codes "parenright" else (if character == 0x2A then codes "asterisk" else (if character == 0x2B then codes "plus"
    else (if character == 0x2C then codes "comma" else (if character == 0x2D then codes "minus" else (if character == 0x2E then codes "period" else (if character == 0x2F then codes "slash"
    else (if character == 0x3A then codes "colon" else (if character == 0x3B then codes "semicolon" else (if character == 0x3C then codes "less" else (if character == 0x3D then codes "equal"
    else (if character == 0x3E then codes "greater" else (if character == 0x3F then codes "question" else (if character == 0x40 then codes "at" else (if character == 0x5B then codes "bracketleft"
    else (if character == 0x5C then codes "backslash" else (if character == 0x5D then codes "bracketright" else (if character == 0x5E then codes "asciicircum" else (if character == 0x5F then codes "underscore"
    else (if character == 0x60 then codes "grave" else (if character == 0x7B then codes "braceleft" else (if character == 0x7C then codes "bar" else (if character == 0x7D then codes "braceright"
    else (if character == 0x7E then codes "asciitilde" else []))))))))))))))))))))))))))))))))

-- of Latin-1 from A0 to BF
abbrev pub sign_name : ℕ → List ℕ
sign_name character =
    if character == 0xA0 then codes "nobreakspace" else (if character == 0xA1 then codes "exclamdown" else (if character == 0xA2 then codes "cent" else (if character == 0xA3 then codes "sterling"
    else (if character == 0xA4 then codes "currency" else (if character == 0xA5 then codes "yen" else (if character == 0xA6 then codes "brokenbar" else (if character == 0xA7 then codes "section"
    else (if character == 0xA8 then codes "diaeresis" else (if character == 0xA9 then codes "copyright" else (if character == 0xAA then codes "ordfeminine" else (if character == 0xAB then codes "guillemotleft"
    else (if character == 0xAC then codes "notsign" else (if character == 0xAE then codes "registered" else (if character == 0xAF then codes "macron" else (if character == 0xB0 then codes "degree"
    else (if character == 0xB1 then codes "plusminus" else (if character == 0xB2 then codes "twosuperior" else (if character == 0xB3 then codes "threesuperior" else (if character == 0xB4 then codes "acute"
    else (if character == 0xB5 then codes "mu" else (if character == 0xB6 then codes "paragraph" else (if character == 0xB7 then codes "periodcentered" else (if character == 0xB8 then codes "cedilla"
    else (if character == 0xB9 then codes "onesuperior" else (if character == 0xBA then codes "masculine" else (if character == 0xBB then codes "guillemotright" else (if character == 0xBC then codes "onequarter"
    else (if character == 0xBD then codes "onehalf" else (if character == 0xBE then codes "threequarters" else (if character == 0xBF then codes "questiondown" else []))))))))))))))))))))))))))))))

-- of Latin-1 from C0 to DF
abbrev pub capital_name : ℕ → List ℕ
capital_name character =
    if character == 0xC0 then codes "Agrave" else (if character == 0xC1 then codes "Aacute" else (if character == 0xC2 then codes "Acircumflex" else (if character == 0xC3 then codes "Atilde"
    else (if character == 0xC4 then codes "Adiaeresis" else (if character == 0xC5 then codes "Aring" else (if character == 0xC6 then codes "AE" else (if character == 0xC7 then codes "Ccedilla"
    else (if character == 0xC8 then codes "Egrave" else (if character == 0xC9 then codes "Eacute" else (if character == 0xCA then codes "Ecircumflex" else (if character == 0xCB then codes "Ediaeresis"
    else (if character == 0xCC then codes "Igrave" else (if character == 0xCD then codes "Iacute" else (if character == 0xCE then codes "Icircumflex" else (if character == 0xCF then codes "Idiaeresis"
    else (if character == 0xD0 then codes "ETH" else (if character == 0xD1 then codes "Ntilde" else (if character == 0xD2 then codes "Ograve" else (if character == 0xD3 then codes "Oacute"
    else (if character == 0xD4 then codes "Ocircumflex" else (if character == 0xD5 then codes "Otilde" else (if character == 0xD6 then codes "Odiaeresis" else (if character == 0xD7 then codes "multiply"
    else (if character == 0xD8 then codes "Oslash" else (if character == 0xD9 then codes "Ugrave" else (if character == 0xDA then codes "Uacute" else (if character == 0xDB then codes "Ucircumflex"
    else (if character == 0xDC then codes "Udiaeresis" else (if character == 0xDD then codes "Yacute" else (if character == 0xDE then codes "THORN" else (if character == 0xDF then codes "ssharp" else [])))))))))))))))))))))))))))))))

-- of Latin-1 from E0 to FF
abbrev pub small_name : ℕ → List ℕ
small_name character =
    if character == 0xE0 then codes "agrave" else (if character == 0xE1 then codes "aacute" else (if character == 0xE2 then codes "acircumflex" else (if character == 0xE3 then codes "atilde"
    else (if character == 0xE4 then codes "adiaeresis" else (if character == 0xE5 then codes "aring" else (if character == 0xE6 then codes "ae" else (if character == 0xE7 then codes "ccedilla"
    else (if character == 0xE8 then codes "egrave" else (if character == 0xE9 then codes "eacute" else (if character == 0xEA then codes "ecircumflex" else (if character == 0xEB then codes "ediaeresis"
    else (if character == 0xEC then codes "igrave" else (if character == 0xED then codes "iacute" else (if character == 0xEE then codes "icircumflex" else (if character == 0xEF then codes "idiaeresis"
    else (if character == 0xF0 then codes "eth" else (if character == 0xF1 then codes "ntilde" else (if character == 0xF2 then codes "ograve" else (if character == 0xF3 then codes "oacute"
    else (if character == 0xF4 then codes "ocircumflex" else (if character == 0xF5 then codes "otilde" else (if character == 0xF6 then codes "odiaeresis" else (if character == 0xF7 then codes "division"
    else (if character == 0xF8 then codes "oslash" else (if character == 0xF9 then codes "ugrave" else (if character == 0xFA then codes "uacute" else (if character == 0xFB then codes "ucircumflex"
    else (if character == 0xFC then codes "udiaeresis" else (if character == 0xFD then codes "yacute" else (if character == 0xFE then codes "thorn" else (if character == 0xFF then codes "ydiaeresis" else [])))))))))))))))))))))))))))))))

abbrev pub character_name : ℕ → List ℕ
character_name character =
    if nat_lt character 0x80 then punctuation_name character else (if nat_lt character 0xC0 then sign_name character
    else (if nat_lt character 0xE0 then capital_name character else small_name character))

abbrev pub is_name : List ℕ → ℕ → Bool
is_name text character = bytes_eq text (character_name character)

-- names that come beside those
abbrev pub other_name : List ℕ → Option ℕ
other_name text =
    if bytes_eq text (codes "quoteright") then Some 0x27 else (if bytes_eq text (codes "hyphen") then Some 0x2D
    else (if bytes_eq text (codes "quoteleft") then Some 0x60 else (if bytes_eq text (codes "Eth") then Some 0xD0
    else (if bytes_eq text (codes "Ooblique") then Some 0xD8 else (if bytes_eq text (codes "Thorn") then Some 0xDE else None)))))

abbrev pub or_other : Option ℕ → List ℕ → Option ℕ
or_other (Some character) text = Some character
or_other None text = other_name text

-- the character of a name, whole and in these letters
unfoldable pub character_named : List ℕ → Option ℕ
character_named text = or_other (find (is_name text) NAMED) text
