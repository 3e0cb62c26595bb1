-- The texts of a picture, with holes: each byte @ stands for a number (specs/Templates.antt). A picture is an SVG document, its lengths are millimetres.
use Rattle.std.specs.Prelude.{List, ◌++◌, ℕ}
use Rattle.outcomes.specs.Texts.{ascii}

-- the head: the part of the ground that is seen, how each layer is drawn (a colour), how its hatching and its margin are, and white ground
unfoldable pub head_text : List ℕ
head_text = ascii "<svg xmlns='http://www.w3.org/2000/svg' viewBox='-@ -@ @ @'>\n<style>\n"
    ++ ascii "path{stroke-width:@.@px;stroke-linecap:round;stroke-linejoin:round;fill-opacity:.1}\n"
    ++ ascii "text{font-family:sans-serif;font-size:2px;fill:#000;stroke:none}\n"
    ++ ascii ".l1{stroke:#0072b2;fill:#0072b2}\n.l2{stroke:#d55e00;fill:#d55e00}\n.l3{stroke:#009e73;fill:#009e73}\n"
    ++ ascii ".l4{stroke:#cc79a7;fill:#cc79a7}\n.l5{stroke:#56b4e9;fill:#56b4e9}\n.l6{stroke:#e69f00;fill:#e69f00}\n"
    ++ ascii ".h{stroke-width:@.@px;fill:none}\n.m{fill:none;stroke-dasharray:@.@ @.@}\n.g{stroke:#000;fill:#000;fill-opacity:.5}\n"
    ++ ascii ".e{stroke:#000;stroke-width:@.@px;fill:none}\n.p{stroke:#000;stroke-width:.6px;fill:none}\n.k{stroke-width:.3px}\n</style>\n"
    ++ ascii "<rect x='-@' y='-@' width='@' height='@' fill='#fff'/>\n"

-- a layer's rectangles: its number, and how far the ground is moved; north is up, so y grows upward
unfoldable pub open_text : List ℕ
open_text = ascii "<g class='l@'><g transform='scale(1 -1) translate(@ @)'>\n"

-- a rectangle's title: its layer and place
unfoldable pub title_text : List ℕ
title_text = ascii "<g><title>layer @, place @</title>"

-- its outline
unfoldable pub outline_text : List ℕ
outline_text = ascii "<path d='M@ @H@V@H@Z'/>"

-- its hatching
unfoldable pub hatch_text : List ℕ
hatch_text = ascii "<path class='h' d='M@ @L@ @ @ @ @ @ @ @ @ @'/>"

-- its end
unfoldable pub end_text : List ℕ
end_text = ascii "</g>\n"

-- .. in a layer with a margin: the grown rectangle around it, dashed
unfoldable pub margin_text : List ℕ
margin_text = ascii "<path class='m' d='M@ @H@V@H@Z'/></g>\n"

-- the end of a layer, and where its line of the legend stands: at the bottom of its sample, which has north up too, so that a hatching leans there as it
-- does on the ground
unfoldable pub close_text : List ℕ
close_text = ascii "</g><g transform='translate(@ @)'><g transform='scale(1 -1)'>"

-- behind the sample what the line says
unfoldable pub legend_text : List ℕ
legend_text = ascii "</g><g transform='scale(@)'><text x='5' y='-.3'>layer @, rectangles: @, margin: @ mm</text></g></g></g>\n"

-- the rows, which stand on top
unfoldable pub rows_text : List ℕ
rows_text = ascii "<g transform='scale(1 -1) translate(@ @)'>\n"

-- a row: its title is the report's line
unfoldable pub row_text : List ℕ
row_text = ascii "<g><title>"

-- the common ground of a row
unfoldable pub ground_text : List ℕ
ground_text = ascii "</title><path class='g' d='M@ @H@V@H@Z'/></g>\n"

-- a row that only touches along a line
unfoldable pub edge_text : List ℕ
edge_text = ascii "</title><path class='e' d='M@ @H@V@H@Z'/></g>\n"

-- a row that only touches in a point: a cross
unfoldable pub point_text : List ℕ
point_text = ascii "</title><path class='p' transform='translate(@ @) scale(@)' d='M-1 -1L1 1M-1 1L1 -1'/></g>\n"

-- the rows' lines of the legend, and the scale bar with its metres
unfoldable pub tail_text : List ℕ
tail_text = ascii "</g><g transform='translate(@ 0) scale(@)'><path class='g k' d='M0 -3h4v2H0Z'/><text x='5' y='-1.3'>all layers meet: @</text>"
    ++ ascii "<path class='p' d='M0 1h4'/><text x='5' y='1.7'>all meet in a line</text>"
    ++ ascii "<path class='p' d='M27 0l2 2m0 -2l-2 2'/><text x='30' y='1.7'>all meet in a point</text></g>\n"
    ++ ascii "<g transform='translate(@ @)'><path class='e' d='M0 0h@'/><g transform='scale(@)'><text y='3'>@.@@@ m</text></g></g>\n</svg>\n"
