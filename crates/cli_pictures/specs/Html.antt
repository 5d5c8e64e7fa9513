-- A screen as a page: the drawing on a black ground.
use Rattle.std.specs.Prelude.{ℕ, List, ◌++◌, codes}
use Rattle.ds_screen.specs.Picture.{Picture}
use Rattle.cli_pictures.specs.Svg.{title_line, svg_element}

unfoldable pub top_lines : List ℕ
top_lines = codes "<!DOCTYPE html>\n<html lang=\"en\">\n<head>\n<meta charset=\"utf-8\">\n"

unfoldable pub body_lines : List ℕ
body_lines = codes "</head>\n<body style=\"background: black\">\n"

unfoldable pub end_lines : List ℕ
end_lines = codes "</body>\n</html>\n"

abbrev pub html_page : Picture → List ℕ
html_page v = top_lines ++ (title_line v ++ (body_lines ++ (svg_element v ++ end_lines)))
