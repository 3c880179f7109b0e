-- The picture of a run in SVG: a lane for each node, a row for each event, and an arrow for each message that was delivered.
use Rattle.std.specs.Prelude.{ℕ, ◌+◌, ◌*◌, ◌==◌, Bool, true, false, ◌&&◌, nat_lt, if◌then◌else◌, List, [], ◌∷◌, ◌++◌, Option, None, Some, codes, decimal, flat_map}
use Rattle.raft_log.specs.declared.role.Role.{Role}
use Rattle.raft_log.specs.declared.role.Role.TheVariants.{Follower, Candidate, Leader}
use Rattle.raft_log.specs.Lists.{range_from}
use Rattle.world_app.specs.declared.style.TheConstants.{OPENING, STYLE}
use Rattle.world_app.specs.declared.diagram.Arrow.{Arrow}
use Rattle.world_app.specs.declared.diagram.Change.{Change}
use Rattle.world_app.specs.declared.diagram.Diagram.{Diagram}
use Rattle.world_app.specs.declared.diagram.NodeView.{NodeView}
use Rattle.world_app.specs.declared.diagram.Row.{Row}
use Rattle.world_app.specs.declared.kinds.Happening.{Happening}
use Rattle.world_app.specs.Words.{deed_of, happening_class, happening_front, kind_class, role_class, role_words}

-- the place of a node's lane, from the left
abbrev pub lane_x : ℕ → ℕ
lane_x node = 200 * node

-- the place of a row, from the top; lanes begin at row 0
abbrev pub row_y : ℕ → ℕ
row_y row = 72 + 24 * row

-- words, and a number after them
abbrev pub named : List ℕ → ℕ → List ℕ
named words number = words ++ decimal number

-- a text's class, and where it is
unfoldable pub placed : List ℕ → ℕ → ℕ → List ℕ
placed class x y = codes "<text class='" ++ class ++ codes "' x='" ++ decimal x ++ codes "' y='" ++ decimal y ++ codes "'>"

-- a path from a point, up to what leads on from there
unfoldable pub path_from : List ℕ → ℕ → ℕ → List ℕ
path_from class x y = codes "<path class='" ++ class ++ codes "' d='M" ++ decimal x ++ codes " " ++ decimal y

-- a node's name above its lane
unfoldable pub name : ℕ → List ℕ
name node = placed (codes "name") (lane_x node) 56 ++ codes "node " ++ decimal node ++ codes "</text>\n"

-- a lane's line, in the colour of a role, from one row to another
unfoldable pub segment : ℕ → Role → ℕ → ℕ → List ℕ
segment node role from to = path_from (role_class role) (lane_x node) (row_y from) ++ codes "V" ++ decimal (row_y to) ++ codes "'/>\n"

-- roles are the same
abbrev pub same_role : Role → Role → Bool
same_role Follower Follower = true
same_role Follower Candidate = false
same_role Follower Leader = false
same_role Candidate Follower = false
same_role Candidate Candidate = true
same_role Candidate Leader = false
same_role Leader Follower = false
same_role Leader Candidate = false
same_role Leader Leader = true

-- the role of a node after an event, given the role before it
abbrev pub role_behind : ℕ → Role → Option Change → Role
role_behind node role None = role
role_behind node role (Some c) = if c.node == node then c.after.role else role

-- the line so far ends if the role changes
abbrev pub ended : ℕ → Role → Role → ℕ → ℕ → List ℕ
ended node role next from row = if same_role role next then [] else segment node role from row

-- where the line begins that continues after a row
abbrev pub begun : Role → Role → ℕ → ℕ → ℕ
begun role next from row = if same_role role next then from else row

-- a lane's line, with this role since a row, over the rows that follow and down to the last
abbrev pub line_from : ℕ → ℕ → Role → ℕ → List Row → List ℕ
line_from last node role from [] = segment node role from last
line_from last node role from (row ∷ rows) =
    ended node role (role_behind node role row.change) from row.number
    ++ line_from last node (role_behind node role row.change) (begun role (role_behind node role row.change) from row.number) rows

-- a lane: its name, and its line
unfoldable pub lane : ℕ → List Row → ℕ → List ℕ
lane last rows node = name node ++ line_from last node Follower 0 rows

-- the first words of a part of a text, which is set apart from the part before it
unfoldable pub part_opening : List ℕ
part_opening = codes "<tspan dx='6' class='"

-- words with a number, as part of a text
unfoldable pub part : List ℕ → List ℕ → ℕ → List ℕ
part class words number = part_opening ++ class ++ codes "'>" ++ named words number ++ codes "</tspan>"

-- the role that a node takes, if it is another one or in another term
unfoldable pub role_part : NodeView → NodeView → List ℕ
role_part before after =
    if same_role before.role after.role && (before.term == after.term) then [] else part (role_class after.role) (role_words after.role) after.term

-- the place up to which a node commits now, if it is a later one
unfoldable pub commit_part : NodeView → NodeView → List ℕ
commit_part before after = if nat_lt before.commit after.commit then part (codes "commit") (codes "commits ") after.commit else []

-- the run that a node begins
unfoldable pub boot_part : NodeView → NodeView → List ℕ
boot_part before after = if before.boot == after.boot then [] else part (codes "boot") (codes "boot ") after.boot

-- an event on its node's lane
unfoldable pub dot : ℕ → ℕ → List ℕ
dot node row = path_from (codes "dot") (lane_x node) (row_y row) ++ codes "h0'/>"

-- what an event was
unfoldable pub happening_text : Happening → List ℕ
happening_text happening = happening_front happening ++ deed_of happening

-- what changed in a node
unfoldable pub parts : NodeView → NodeView → List ℕ
parts before after = boot_part before after ++ role_part before after ++ commit_part before after

-- what an event was, and what it changed, beside its node's lane
unfoldable pub change_text : ℕ → Happening → Change → List ℕ
change_text number happening c =
    dot c.node number ++ placed (happening_class happening) (lane_x c.node + 20) (row_y number + 4)
    ++ happening_text happening ++ parts c.before c.after ++ codes "</text>\n"

-- the same, or that there is no such node or message
unfoldable pub happened : ℕ → Happening → Option Change → List ℕ
happened number happening None = placed (codes "none") 158 (row_y number + 4) ++ codes "none</text>\n"
happened number happening (Some c) = change_text number happening c

-- an event's row
unfoldable pub row_text : Row → List ℕ
row_text row = placed (codes "number") 152 (row_y row.number + 4) ++ decimal row.number ++ codes "</text>" ++ happened row.number row.happening row.change

-- where a message was delivered
unfoldable pub arrow_end : ℕ → ℕ → List ℕ
arrow_end addressee delivered = named (codes "L") (lane_x addressee) ++ named (codes " ") (row_y delivered) ++ codes "'>"

-- the event that delivered it, which is shown when the pointer is on the arrow
unfoldable pub arrow_title : ℕ → ℕ → List ℕ
arrow_title sender number = named (codes "<title>deliver ") sender ++ named (codes " ") number ++ codes "</title>"

-- a message, from the row in which it was sent to the row in which it was delivered
unfoldable pub arrow_text : Arrow → List ℕ
arrow_text a =
    path_from (kind_class a.kind) (lane_x a.sender) (row_y a.sent) ++ arrow_end a.addressee a.delivered ++ arrow_title a.sender a.number ++ codes "</path>\n"

-- the first words of the picture
unfoldable pub opening : List ℕ
opening = OPENING.now

-- how the picture's parts look
unfoldable pub style : List ℕ
style = STYLE.now

-- the picture's width and height
unfoldable pub sized : ℕ → ℕ → List ℕ
sized width height = named (codes " width='") width ++ named (codes "' height='") height ++ codes "'>\n"

-- the head of a picture of this width and height: 120 of its plane lie to the left of what is seen
unfoldable pub head : ℕ → ℕ → List ℕ
head width height = opening ++ named [] width ++ named (codes " ") height ++ codes "'" ++ sized width height ++ style

-- the end of the picture
abbrev pub foot : List ℕ
foot = codes "</svg>\n"

-- the picture of a diagram: lanes, arrows over them, and rows over both
abbrev pub picture : Diagram → List ℕ
picture d =
    head (200 * d.size + 180) (row_y d.last + 40)
    ++ flat_map (lane d.last d.rows.items) (range_from 1 d.size)
    ++ flat_map arrow_text d.arrows.items
    ++ flat_map row_text d.rows.items
    ++ foot
