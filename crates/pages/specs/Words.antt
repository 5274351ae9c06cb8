-- What stands on each page, and the words of the axioms of the library.
use Rattle.std.specs.Prelude.{ℕ, List, [], codes, if◌then◌else◌}
use Rattle.std.specs.Str.{bytes_eq}
use Rattle.vocab.specs.declared.kinds.Kind.{Kind}
use Rattle.vocab.specs.declared.kinds.Kind.TheVariants.{Choice, Ranking, Sets}

-- the front of each page, up to its title
unfoldable pub opening : List ℕ
opening = codes "<!doctype html>\n<html lang=en><head><meta charset=utf-8><title>"

-- what stands between the title and the heading: the styles
unfoldable pub styles : List ℕ
styles = codes "</title><style>@page{size:A4;margin:7mm 8mm}body{font:9pt/1.2 'Times New Roman','Liberation Serif',Times,serif;max-width:194mm;margin:5mm auto;color:#111}h1{font-size:13pt;line-height:1.15;margin:0 0 3px}h2{font-size:10.5pt;margin:5px 0 1px}h3{font-size:1.05em;margin:2px 0 0;column-span:all}p{margin:1px 0}ul,ol{margin:0;padding-left:15px}section{columns:2;column-gap:12px}li,tr,h3{break-inside:avoid}h3{break-after:avoid}li:has(.c){break-inside:auto}code{font-size:.88em;letter-spacing:-.3px;white-space:nowrap}.a code{white-space:normal;color:#666;font-size:7pt}.c{border-left:2px solid #ccc;padding-left:4px;margin:2px 0}.c li>.c{margin-left:-14px}.c li>.c>b{margin-left:8px}details{display:inline-block;vertical-align:bottom}details[open]{display:block}summary{display:inline;list-style:none;cursor:pointer;border-bottom:1px dotted #888}summary::-webkit-details-marker{display:none}section div{display:inline}section .c,section .e{display:block}span+span::before,div+div::before{content:'; '}.s div+div::before{content:' and '}.s+div::before,.c+div::before,.e::before,.w div::before{content:''!important}.z,u{color:#888}u{text-decoration:none}table{border-collapse:collapse;break-inside:avoid}td,th{border:1px solid #bbb;font-size:6.8pt;line-height:1;padding:0 1px;text-align:center;white-space:nowrap;font-weight:normal;min-width:17px;height:11px}th{background:#f1f1f1}sup{font-size:4.8pt;font-weight:normal;color:#a00;line-height:0}u sup{color:#888}.p{float:right;margin-left:5px}.p td,.p th{border:0;background:none;min-width:0;height:auto;padding:0 2px}.p th{border-bottom:1px solid #888;color:#777}.w{display:flex;flex-wrap:wrap;gap:10px}.w>div{break-inside:avoid}.l{columns:100px;list-style:none;padding:0}summary+code{white-space:normal}section .g td{font-weight:bold}section .g u{font-weight:normal}.k[open]{column-span:all;break-inside:avoid}.k table{table-layout:fixed;width:100%}.k td,.k th{font-size:5pt;min-width:0;padding:0;white-space:normal}.k sup{font-size:4pt}@media print{body{font-size:8pt;line-height:1.12;margin:0 auto;columns:2;column-gap:10px}body>:not(section){column-span:all}section{columns:auto}h3{column-span:none}summary{border:0}details:not([open]):has(>details>.l>li:nth-child(50))>summary::after{content:' (on the screen)'}.k:not([open])>summary::after{content:' (on the screen)'}@supports selector(::details-content){details:has(>.g)::details-content,details:has(>.l)::details-content,details:has(>details):not(:has(>details>.l>li:nth-child(50)))::details-content{content-visibility:visible}details:has(>.g)>summary,details:has(>details):not(:has(>details>.l>li:nth-child(50)))>summary{display:none}}td,th{font-size:6.2pt;height:9px}}</style></head><body>\n<h1>"

-- the words of an axiom of the library of rules that choose
unfoldable pub choice_words : List ℕ → List ℕ
choice_words name =
    if bytes_eq name (codes "unanimity") then codes ": an alternative that every voter ranks first wins." else (
    if bytes_eq name (codes "pareto") then codes ": where every voter ranks x above y, y does not win." else (
    if bytes_eq name (codes "onto") then codes ": each alternative wins at some profile." else (
    if bytes_eq name (codes "non_dictatorship") then codes ": for each voter there is a profile at which an alternative wins that this voter ranks below another." else (
    if bytes_eq name (codes "strategyproof") then codes ": no voter, by casting any ballot at a profile, makes an alternative win that this voter's ballot there ranks above the winner there." else (
    if bytes_eq name (codes "maskin") then codes ": if x wins at p, and at q each voter still ranks x above whatever this voter ranked below x at p, then x wins at q." else (
    if bytes_eq name (codes "condorcet") then codes ": an alternative wins that more voters rank above than below each other one." else (
    if bytes_eq name (codes "anonymity") then codes ": if two voters exchange their ballots, the same alternative wins." else (
    if bytes_eq name (codes "neutrality") then codes ": if two alternatives are exchanged in all ballots, they are exchanged in the outcome." else (
    if bytes_eq name (codes "participation") then codes ": no voter who is absent, by casting a ballot, makes an alternative win that this ballot ranks below the winner without it." else (
    []))))))))))

-- the words of an axiom of the library of rules that rank
unfoldable pub ranking_words : List ℕ → List ℕ
ranking_words name =
    if bytes_eq name (codes "pareto") then codes ": where every voter ranks x above y, so does the outcome." else (
    if bytes_eq name (codes "independence") then codes ": if each voter ranks x and y at p as at q, the outcomes at p and at q rank x and y alike." else (
    if bytes_eq name (codes "non_dictatorship") then codes ": for each voter there is a profile and a pair which the outcome there ranks otherwise than this voter." else (
    if bytes_eq name (codes "anonymity") then codes ": if two voters exchange their ballots, the outcome is the same." else (
    if bytes_eq name (codes "neutrality") then codes ": if two alternatives are exchanged in all ballots, they are exchanged in the outcome." else (
    [])))))

-- the words of an axiom of the library of rules that give a set
unfoldable pub set_words : List ℕ → List ℕ
set_words name =
    if bytes_eq name (codes "pareto") then codes ": where every voter ranks x above y, y is not in the set." else (
    if bytes_eq name (codes "anonymity") then codes ": if two voters exchange their ballots, the set is the same." else (
    if bytes_eq name (codes "neutrality") then codes ": if two alternatives are exchanged in all ballots, they are exchanged in the set." else (
    if bytes_eq name (codes "condorcet") then codes ": an alternative that more voters rank above than below each other one is the whole set." else (
    if bytes_eq name (codes "resolute") then codes ": no two alternatives are in the set." else (
    if bytes_eq name (codes "strategyproof") then codes ": no voter, by casting any ballot at a profile, gets another set in which each alternative is as good, by this voter's ballot there, as each alternative of the set there." else (
    []))))))

-- the words of an axiom of the library of a kind; an axiom of the study's own has none
abbrev pub library_words : Kind → List ℕ → List ℕ
library_words Choice name = choice_words name
library_words Ranking name = ranking_words name
library_words Sets name = set_words name
