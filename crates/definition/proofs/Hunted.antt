-- Made by tests/make-hunted from tests/vectors/hunted.txt: books that tell wrong readings of document 01 apart, with the
-- original's answers, refusals and caches. Above each: the wrong readings that it catches.
use mathlib.Core.Path.{◌≡◌, refl}
use mathlib.Core.Bool.{true}
use mathlib.Core.List.{[], ◌∷◌}
use lib.ListN.{replicate}
use Rattle.definition.specs.Answers.{combine}
use Rattle.definition.specs.Usages.{counter_limit}
use Rattle.definition.proofs.Example.{line, book, bytes, agrees}

-- catches: 150 (every book is turned away), 158 (goal G is accepted; panics), 184 (L = 0 is refused)
pub book_h158_rings_1_8 : agrees (book (line 1 1 0 0 1 ∷ line 1 0 0 0 0 ∷ line 4 0 0 0 0 ∷ [])) (replicate 10 0)
    (record { goal = 1; depth = 0; work_length = 260; answer = 0; refusal = 5; work_byte = 7; work_seen = 260; cache = bytes 10 0x00000000000000000000 } ∷ []) ≡ true
unfolding counter_limit combine
book_h158_rings_1_8 = refl

-- catches: 150 (every book is turned away), 160 (depth T + 1 is accepted), 184 (L = 0 is refused)
pub book_h160_no_inductive_1_131 : agrees (book (line 1 1 0 0 1 ∷ line 1 0 0 0 0 ∷ line 4 0 0 0 0 ∷ [])) (replicate 10 0)
    (record { goal = 0; depth = 1; work_length = 260; answer = 0; refusal = 6; work_byte = 7; work_seen = 260; cache = bytes 10 0x00000000000000000000 } ∷ []) ≡ true
unfolding counter_limit combine
book_h160_no_inductive_1_131 = refl

-- catches: 150 (every book is turned away), 161 (refusal 6 comes before 5), 184 (L = 0 is refused)
pub book_h161_only_inductive_1_6 : agrees (book (line 1 1 0 0 1 ∷ line 1 0 0 0 0 ∷ line 4 0 0 0 0 ∷ [])) (replicate 10 0)
    (record { goal = 18446744073709551611; depth = 1; work_length = 260; answer = 0; refusal = 5; work_byte = 7; work_seen = 260; cache = bytes 10 0x00000000000000000000 } ∷ []) ≡ true
unfolding counter_limit combine
book_h161_only_inductive_1_6 = refl

-- catches: 10 (is_single is always true), 24 (a nested goal's paths are replaced), 25 (a nested goal's paths stay as they are), 30 (lower 0 lowers the depth too), 32 (lower 0 at depth 0 overflows), 40 (root depth 0 overflows), 41 (the root's depth is lowered), 63 (a cycle does not insert the head into the nested goals), 64 (a cycle inserts the head with the flag empty), 65 (a goal is never among its own nested goals), 66 (a goal is among its own nested goals with the flag inductive), 86 (the global cache is never written), 110 (an empty all is No), 118 (the step limit is undecided), 125 (lower 0 and 1 are confused), 126 (every goal is undecided), 150 (every book is turned away), 159 (depth T is refused), 258 (at the step limit the last run is not among the passes), 259 (at the step limit one pass more is counted), 260 (a first fixpoint needs no single kind of usages), 270 (L + 1 runs are allowed), 274 (at the step limit the last result is claimed), 275 (the result of the first run is claimed), 276 (the step limit marks the frame as met by overflow), 300 (passes stand last, after the flags), 303 (passes are counted from 0), 318 (a slot has no byte for passes: the length is document 01's)
pub book_h270_rings_1_24 : agrees (book (line 1 1 0 1 1 ∷ line 1 0 0 0 0 ∷ line 4 2 0 0 0 ∷ line 2 0 0 0 0 ∷ line 3 0 0 0 0 ∷ [])) (replicate 10 0)
    (record { goal = 0; depth = 0; work_length = 260; answer = 3; refusal = 0; work_byte = 0; work_seen = 260; cache = bytes 10 0x00000000000301000301 } ∷ []) ≡ true
unfolding counter_limit combine
book_h270_rings_1_24 = refl

-- catches: 24 (a nested goal's paths are replaced), 25 (a nested goal's paths stay as they are), 30 (lower 0 lowers the depth too), 32 (lower 0 at depth 0 overflows), 40 (root depth 0 overflows), 41 (the root's depth is lowered), 42 (a cycle is looked for before the overflow at depth 0), 63 (a cycle does not insert the head into the nested goals), 64 (a cycle inserts the head with the flag empty), 66 (a goal is among its own nested goals with the flag inductive), 73 (a cycle path leaves out the closing step), 86 (the global cache is never written), 96 (an overflow does not mark the frame), 112 (of undecided and overflow the higher number counts, as in document 01), 115 (unknown cycles begin with overflow, forced ones with undecided), 119 (unknown cycles begin with No), 124 (kinds 1 and 2 are confused), 125 (lower 0 and 1 are confused), 126 (every goal is undecided), 131 (of undecided and overflow the first one met counts), 133 (all takes the higher number), 135 (all and any inside a pick take the higher number), 150 (every book is turned away), 159 (depth T is refused), 184 (L = 0 is refused), 273 (L = 0 overflows at once), 287 (the run that reaches a fixpoint is not among the passes), 294 (a result that met overflow goes to the success slot), 300 (passes stand last, after the flags), 301 (an overflow slot says no passes), 303 (passes are counted from 0), 315 (with L = 0 a held slot says no passes), 318 (a slot has no byte for passes: the length is document 01's)
pub book_h135_nested_1_29 : agrees (book (line 1 1 0 0 1 ∷ line 1 0 0 0 0 ∷ line 5 1 0 0 0 ∷ line 3 2 0 0 0 ∷ line 2 0 0 1 0 ∷ line 2 0 1 0 0 ∷ [])) (replicate 10 0)
    (record { goal = 0; depth = 0; work_length = 260; answer = 2; refusal = 0; work_byte = 0; work_seen = 260; cache = bytes 10 0x05010002010000000000 } ∷ []) ≡ true
unfolding counter_limit combine
book_h135_nested_1_29 = refl

-- catches: 40 (root depth 0 overflows), 41 (the root's depth is lowered), 42 (a cycle is looked for before the overflow at depth 0), 86 (the global cache is never written), 96 (an overflow does not mark the frame), 97 (an overflow does not insert the frame's goal), 110 (an empty all is No), 112 (of undecided and overflow the higher number counts, as in document 01), 113 (of undecided and overflow the last one met counts), 125 (lower 0 and 1 are confused), 126 (every goal is undecided), 133 (all takes the higher number), 138 (all takes the higher number where it met a Yes too), 150 (every book is turned away), 159 (depth T is refused), 184 (L = 0 is refused), 273 (L = 0 overflows at once), 286 (the run of a frame that is no head is not among the passes), 294 (a result that met overflow goes to the success slot), 301 (an overflow slot says no passes), 303 (passes are counted from 0), 315 (with L = 0 a held slot says no passes), 318 (a slot has no byte for passes: the length is document 01's)
pub book_h138_rings_1_34 : agrees (book (line 1 1 0 0 1 ∷ line 1 0 0 0 0 ∷ line 3 3 0 0 0 ∷ line 6 0 0 0 0 ∷ line 2 0 0 1 0 ∷ line 3 0 0 0 0 ∷ [])) (replicate 10 0)
    (record { goal = 0; depth = 0; work_length = 260; answer = 2; refusal = 0; work_byte = 0; work_seen = 260; cache = bytes 10 0x01010002010000000000 } ∷ []) ≡ true
unfolding counter_limit combine
book_h138_rings_1_34 = refl

-- catches: 40 (root depth 0 overflows), 41 (the root's depth is lowered), 42 (a cycle is looked for before the overflow at depth 0), 86 (the global cache is never written), 96 (an overflow does not mark the frame), 97 (an overflow does not insert the frame's goal), 111 (an empty any is Yes), 112 (of undecided and overflow the higher number counts, as in document 01), 113 (of undecided and overflow the last one met counts), 125 (lower 0 and 1 are confused), 126 (every goal is undecided), 134 (any takes the higher number), 139 (any takes the higher number where it met a No too), 150 (every book is turned away), 159 (depth T is refused), 184 (L = 0 is refused), 273 (L = 0 overflows at once), 286 (the run of a frame that is no head is not among the passes), 294 (a result that met overflow goes to the success slot), 301 (an overflow slot says no passes), 303 (passes are counted from 0), 315 (with L = 0 a held slot says no passes), 318 (a slot has no byte for passes: the length is document 01's)
pub book_h139_no_coinductive_1_0 : agrees (book (line 1 1 0 0 1 ∷ line 1 0 0 0 0 ∷ line 4 3 0 0 0 ∷ line 6 0 0 0 0 ∷ line 4 0 0 0 0 ∷ line 2 0 0 1 0 ∷ [])) (replicate 10 0)
    (record { goal = 0; depth = 0; work_length = 260; answer = 2; refusal = 0; work_byte = 0; work_seen = 260; cache = bytes 10 0x01010002010000000000 } ∷ []) ≡ true
unfolding counter_limit combine
book_h139_no_coinductive_1_0 = refl

-- catches: 40 (root depth 0 overflows), 41 (the root's depth is lowered), 42 (a cycle is looked for before the overflow at depth 0), 86 (the global cache is never written), 96 (an overflow does not mark the frame), 97 (an overflow does not insert the frame's goal), 111 (an empty any is Yes), 117 (too little depth is undecided), 125 (lower 0 and 1 are confused), 126 (every goal is undecided), 130 (all is undecided where an earlier part was, in spite of a No), 140 (an undecided that was met in a part of a part counts), 141 (an undecided line that was not evaluated counts), 142 (a list that met overflow and nothing worse is undecided), 150 (every book is turned away), 159 (depth T is refused), 184 (L = 0 is refused), 273 (L = 0 overflows at once), 286 (the run of a frame that is no head is not among the passes), 294 (a result that met overflow goes to the success slot), 301 (an overflow slot says no passes), 303 (passes are counted from 0), 315 (with L = 0 a held slot says no passes), 318 (a slot has no byte for passes: the length is document 01's)
pub book_h140_only_inductive_1_120 : agrees (book (line 1 1 0 0 1 ∷ line 1 0 0 0 0 ∷ line 5 2 0 0 0 ∷ line 2 0 0 1 0 ∷ line 3 2 0 0 0 ∷ line 6 0 0 0 0 ∷ line 4 0 0 0 0 ∷ [])) (replicate 10 0)
    (record { goal = 0; depth = 0; work_length = 260; answer = 3; refusal = 0; work_byte = 0; work_seen = 260; cache = bytes 10 0x01010003010000000000 } ∷ []) ≡ true
unfolding counter_limit combine
book_h140_only_inductive_1_120 = refl

-- catches: 40 (root depth 0 overflows), 41 (the root's depth is lowered), 86 (the global cache is never written), 111 (an empty any is Yes), 126 (every goal is undecided), 150 (every book is turned away), 156 (a longer work buffer is accepted), 157 (refusals 5 to 9 zero the cache), 159 (depth T is refused), 166 (a success slot may not require depth T), 184 (L = 0 is refused), 273 (L = 0 overflows at once), 286 (the run of a frame that is no head is not among the passes), 300 (passes stand last, after the flags), 303 (passes are counted from 0), 315 (with L = 0 a held slot says no passes), 318 (a slot has no byte for passes: the length is document 01's), 319 (a held slot says at most L passes, with L = 0 too)
pub book_h157_rings_1_12 : agrees (book (line 1 1 0 0 1 ∷ line 1 0 0 0 0 ∷ line 4 0 0 0 0 ∷ [])) (replicate 10 0)
    (record { goal = 0; depth = 0; work_length = 260; answer = 0; refusal = 0; work_byte = 0; work_seen = 260; cache = bytes 10 0x00000000000001000001 } ∷ record { goal = 0; depth = 0; work_length = 277; answer = 0; refusal = 9; work_byte = 7; work_seen = 8; cache = bytes 10 0x00000000000001000001 } ∷ []) ≡ true
unfolding counter_limit combine
book_h157_rings_1_12 = refl

-- catches: 40 (root depth 0 overflows), 41 (the root's depth is lowered), 86 (the global cache is never written), 111 (an empty any is Yes), 126 (every goal is undecided), 150 (every book is turned away), 159 (depth T is refused), 172 (parts nest at most 7 deep), 184 (L = 0 is refused), 273 (L = 0 overflows at once), 286 (the run of a frame that is no head is not among the passes), 300 (passes stand last, after the flags), 303 (passes are counted from 0), 315 (with L = 0 a held slot says no passes), 318 (a slot has no byte for passes: the length is document 01's)
pub book_h172_nested_1_100 : agrees (book (line 1 1 0 0 1 ∷ line 1 0 0 0 0 ∷ line 3 1 0 0 0 ∷ line 3 1 0 0 0 ∷ line 3 1 0 0 0 ∷ line 3 1 0 0 0 ∷ line 5 1 0 0 0 ∷ line 4 1 0 0 0 ∷ line 3 1 0 0 0 ∷ line 4 0 0 0 0 ∷ [])) (replicate 10 0)
    (record { goal = 0; depth = 0; work_length = 260; answer = 0; refusal = 0; work_byte = 0; work_seen = 260; cache = bytes 10 0x00000000000001000001 } ∷ []) ≡ true
unfolding counter_limit combine
book_h172_nested_1_100 = refl

-- catches: 5 (extend takes the lesser kind), 7 (extend keeps the first kind), 8 (is_single asks for at most one usage), 14 (extend_with keeps the weaker flags), 24 (a nested goal's paths are replaced), 25 (a nested goal's paths stay as they are), 26 (a child's nested goals are not extended by the step), 30 (lower 0 lowers the depth too), 31 (lower 1 keeps the depth), 33 (lower 1 at depth 1 overflows), 35 (the depth is divided without an overflow), 41 (the root's depth is lowered), 53 (a provisional hit does not lower its parent's reached depth), 62 (a child's nested goals are not taken over), 63 (a cycle does not insert the head into the nested goals), 65 (a goal is never among its own nested goals), 66 (a goal is among its own nested goals with the flag inductive), 74 (a cycle path is the closing step alone), 85 (every finished goal goes to the global cache), 86 (the global cache is never written), 114 (inductive cycles begin with Yes, coinductive ones with No), 124 (kinds 1 and 2 are confused), 125 (lower 0 and 1 are confused), 126 (every goal is undecided), 150 (every book is turned away), 159 (depth T is refused), 184 (L = 0 is refused), 251 (a cycle counts as a usage of the closing step's kind), 262 (a first run is never a fixpoint), 273 (L = 0 overflows at once), 287 (the run that reaches a fixpoint is not among the passes), 300 (passes stand last, after the flags), 303 (passes are counted from 0), 305 (the runs of the goals called are added), 315 (with L = 0 a held slot says no passes), 318 (a slot has no byte for passes: the length is document 01's)
pub book_h53_knots_1_162 : agrees (book (line 1 2 1 0 1 ∷ line 1 0 0 0 0 ∷ line 3 2 0 0 0 ∷ line 2 1 2 0 0 ∷ line 2 1 2 1 0 ∷ line 1 1 0 0 0 ∷ line 2 0 0 0 0 ∷ [])) (replicate 36 0)
    (record { goal = 0; depth = 1; work_length = 848; answer = 1; refusal = 0; work_byte = 0; work_seen = 848; cache = bytes 36 0x000000000000000000000000000000000000000000000000000000000000080901010101 } ∷ []) ≡ true
unfolding counter_limit combine
book_h53_knots_1_162 = refl

-- catches: 5 (extend takes the lesser kind), 7 (extend keeps the first kind), 14 (extend_with keeps the weaker flags), 24 (a nested goal's paths are replaced), 25 (a nested goal's paths stay as they are), 26 (a child's nested goals are not extended by the step), 31 (lower 1 keeps the depth), 33 (lower 1 at depth 1 overflows), 35 (the depth is divided without an overflow), 41 (the root's depth is lowered), 42 (a cycle is looked for before the overflow at depth 0), 50 (the overflow mark is not handed to the parent), 51 (a finished goal does not lower its parent's reached depth), 62 (a child's nested goals are not taken over), 63 (a cycle does not insert the head into the nested goals), 65 (a goal is never among its own nested goals), 66 (a goal is among its own nested goals with the flag inductive), 69 (a child's nested goals do not insert the parent's own goal), 74 (a cycle path is the closing step alone), 85 (every finished goal goes to the global cache), 86 (the global cache is never written), 93 (the provisional cache is always on), 96 (an overflow does not mark the frame), 97 (an overflow does not insert the frame's goal), 98 (an overflow inserts the goal that overflowed), 112 (of undecided and overflow the higher number counts, as in document 01), 113 (of undecided and overflow the last one met counts), 115 (unknown cycles begin with overflow, forced ones with undecided), 117 (too little depth is undecided), 119 (unknown cycles begin with No), 124 (kinds 1 and 2 are confused), 125 (lower 0 and 1 are confused), 126 (every goal is undecided), 132 (a pick takes the higher number), 144 (too little depth is undecided where undecided was met before), 150 (every book is turned away), 159 (depth T is refused), 170 (overflow slots stand from depth T down), 184 (L = 0 is refused), 273 (L = 0 overflows at once), 286 (the run of a frame that is no head is not among the passes), 287 (the run that reaches a fixpoint is not among the passes), 294 (a result that met overflow goes to the success slot), 300 (passes stand last, after the flags), 301 (an overflow slot says no passes), 303 (passes are counted from 0), 304 (the goal's runs in all frames of the query are added), 305 (the runs of the goals called are added), 315 (with L = 0 a held slot says no passes), 318 (a slot has no byte for passes: the length is document 01's)
pub book_h93_rings_1_66 : agrees (book (line 0 2 1 0 1 ∷ line 1 0 0 0 0 ∷ line 2 1 0 1 0 ∷ line 1 1 0 0 0 ∷ line 5 2 0 0 0 ∷ line 2 0 1 0 0 ∷ line 2 0 1 1 0 ∷ [])) (replicate 36 0)
    (record { goal = 1; depth = 1; work_length = 848; answer = 2; refusal = 0; work_byte = 0; work_seen = 848; cache = bytes 36 0x050401010201000000000000000000000000000000000000000101000301000000000000 } ∷ []) ≡ true
unfolding counter_limit combine
book_h93_rings_1_66 = refl

-- catches: 10 (is_single is always true), 14 (extend_with keeps the weaker flags), 16 (extend_with by an inductive step leaves the flag empty), 24 (a nested goal's paths are replaced), 25 (a nested goal's paths stay as they are), 26 (a child's nested goals are not extended by the step), 31 (lower 1 keeps the depth), 33 (lower 1 at depth 1 overflows), 35 (the depth is divided without an overflow), 41 (the root's depth is lowered), 42 (a cycle is looked for before the overflow at depth 0), 50 (the overflow mark is not handed to the parent), 62 (a child's nested goals are not taken over), 63 (a cycle does not insert the head into the nested goals), 64 (a cycle inserts the head with the flag empty), 65 (a goal is never among its own nested goals), 66 (a goal is among its own nested goals with the flag inductive), 73 (a cycle path leaves out the closing step), 86 (the global cache is never written), 96 (an overflow does not mark the frame), 97 (an overflow does not insert the frame's goal), 98 (an overflow inserts the goal that overflowed), 111 (an empty any is Yes), 117 (too little depth is undecided), 124 (kinds 1 and 2 are confused), 125 (lower 0 and 1 are confused), 126 (every goal is undecided), 130 (all is undecided where an earlier part was, in spite of a No), 150 (every book is turned away), 159 (depth T is refused), 170 (overflow slots stand from depth T down), 260 (a first fixpoint needs no single kind of usages), 271 (L - 1 runs are allowed), 275 (the result of the first run is claimed), 281 (a rerun keeps the overflow mark), 286 (the run of a frame that is no head is not among the passes), 287 (the run that reaches a fixpoint is not among the passes), 294 (a result that met overflow goes to the success slot), 300 (passes stand last, after the flags), 301 (an overflow slot says no passes), 302 (an overflow slot always says one pass), 303 (passes are counted from 0), 305 (the runs of the goals called are added), 306 (every rerun starts the count anew), 311 (a hit counts as one pass more), 318 (a slot has no byte for passes: the length is document 01's)
pub book_h281_rings_1_98 : agrees (book (line 1 2 1 2 1 ∷ line 1 0 0 0 0 ∷ line 3 3 0 0 0 ∷ line 2 1 0 1 0 ∷ line 2 0 1 0 0 ∷ line 4 0 0 0 0 ∷ line 1 1 0 0 0 ∷ line 2 0 0 1 0 ∷ [])) (replicate 36 0)
    (record { goal = 0; depth = 1; work_length = 848; answer = 0; refusal = 0; work_byte = 0; work_seen = 848; cache = bytes 36 0x000000000000010001000301000000000000020502010001000000000000000000000000 } ∷ []) ≡ true
unfolding counter_limit combine
book_h281_rings_1_98 = refl

-- catches: 10 (is_single is always true), 14 (extend_with keeps the weaker flags), 16 (extend_with by an inductive step leaves the flag empty), 24 (a nested goal's paths are replaced), 25 (a nested goal's paths stay as they are), 26 (a child's nested goals are not extended by the step), 31 (lower 1 keeps the depth), 33 (lower 1 at depth 1 overflows), 34 (after an overflow the depth is not divided), 35 (the depth is divided without an overflow), 37 (after an overflow the depth is divided and lowered), 39 (after an overflow the depth is lowered at least by 1), 41 (the root's depth is lowered), 42 (a cycle is looked for before the overflow at depth 0), 46 (a success slot applies at any depth; panics), 50 (the overflow mark is not handed to the parent), 54 (a cycle does not lower its parent's reached depth), 62 (a child's nested goals are not taken over), 63 (a cycle does not insert the head into the nested goals), 64 (a cycle inserts the head with the flag empty), 65 (a goal is never among its own nested goals), 66 (a goal is among its own nested goals with the flag inductive), 73 (a cycle path leaves out the closing step), 86 (the global cache is never written), 96 (an overflow does not mark the frame), 97 (an overflow does not insert the frame's goal), 101 (a pick ignores the first Yes's usages too), 114 (inductive cycles begin with Yes, coinductive ones with No), 117 (too little depth is undecided), 124 (kinds 1 and 2 are confused), 125 (lower 0 and 1 are confused), 126 (every goal is undecided), 130 (all is undecided where an earlier part was, in spite of a No), 150 (every book is turned away), 159 (depth T is refused), 170 (overflow slots stand from depth T down), 240 (a global entry applies with its nested goals on the stack), 247 (a global hit does not hand on the overflow mark), 260 (a first fixpoint needs no single kind of usages), 262 (a first run is never a fixpoint), 271 (L - 1 runs are allowed), 275 (the result of the first run is claimed), 286 (the run of a frame that is no head is not among the passes), 287 (the run that reaches a fixpoint is not among the passes), 293 (an overflow slot applies above its depth too), 294 (a result that met overflow goes to the success slot), 295 (the overflow slot one depth lower is looked up), 300 (passes stand last, after the flags), 301 (an overflow slot says no passes), 302 (an overflow slot always says one pass), 303 (passes are counted from 0), 304 (the goal's runs in all frames of the query are added), 305 (the runs of the goals called are added), 306 (every rerun starts the count anew), 311 (a hit counts as one pass more), 318 (a slot has no byte for passes: the length is document 01's)
pub book_h46_knots_1_3 : agrees (book (line 1 2 1 2 1 ∷ line 1 0 0 0 0 ∷ line 2 0 0 1 0 ∷ line 1 1 0 0 0 ∷ line 3 2 0 0 0 ∷ line 5 2 0 0 0 ∷ line 2 0 0 1 0 ∷ line 2 1 2 1 0 ∷ line 2 0 0 1 0 ∷ [])) (replicate 36 0)
    (record { goal = 1; depth = 1; work_length = 848; answer = 0; refusal = 0; work_byte = 0; work_seen = 848; cache = bytes 36 0x090202010001000000000000000000000000000000000000000101000301000301010001 } ∷ []) ≡ true
unfolding counter_limit combine
book_h46_knots_1_3 = refl

-- catches: 10 (is_single is always true), 13 (merging usages replaces those merged before), 14 (extend_with keeps the weaker flags), 16 (extend_with by an inductive step leaves the flag empty), 24 (a nested goal's paths are replaced), 25 (a nested goal's paths stay as they are), 26 (a child's nested goals are not extended by the step), 30 (lower 0 lowers the depth too), 31 (lower 1 keeps the depth), 33 (lower 1 at depth 1 overflows), 35 (the depth is divided without an overflow), 41 (the root's depth is lowered), 56 (candidate usages leave out the heads below the frame), 61 (a new head gains no usages; panics), 62 (a child's nested goals are not taken over), 63 (a cycle does not insert the head into the nested goals), 65 (a goal is never among its own nested goals), 66 (a goal is among its own nested goals with the flag inductive), 75 (ignoring leaves the usages of lower heads), 84 (a goal whose heads are all unused goes to the global cache), 85 (every finished goal goes to the global cache), 86 (the global cache is never written), 94 (the provisional cache is always off), 100 (a pick ignores no usages), 101 (a pick ignores the first Yes's usages too), 102 (a pick ignores only candidates before the Yes), 105 (a pick keeps the last Yes's usages, not the first's), 106 (a pick stops at a Yes), 107 (a pick is combined as all), 110 (an empty all is No), 114 (inductive cycles begin with Yes, coinductive ones with No), 125 (lower 0 and 1 are confused), 126 (every goal is undecided), 150 (every book is turned away), 159 (depth T is refused), 230 (a rerun drops entries that do not use the result), 231 (a rerun drops all entries), 260 (a first fixpoint needs no single kind of usages), 271 (L - 1 runs are allowed), 275 (the result of the first run is claimed), 279 (a rerun forgets the nested goals), 287 (the run that reaches a fixpoint is not among the passes), 300 (passes stand last, after the flags), 303 (passes are counted from 0), 305 (the runs of the goals called are added), 306 (every rerun starts the count anew), 318 (a slot has no byte for passes: the length is document 01's)
pub book_h230_only_inductive_1_109 : agrees (book (line 1 2 1 2 1 ∷ line 1 0 0 0 0 ∷ line 5 3 0 0 0 ∷ line 3 0 0 0 0 ∷ line 2 1 0 0 0 ∷ line 2 0 0 1 0 ∷ line 1 1 0 0 0 ∷ line 5 2 0 0 0 ∷ line 4 2 0 0 0 ∷ line 2 1 0 1 0 ∷ line 2 0 0 0 0 ∷ line 2 0 0 1 0 ∷ [])) (replicate 36 0)
    (record { goal = 1; depth = 1; work_length = 848; answer = 1; refusal = 0; work_byte = 0; work_seen = 848; cache = bytes 36 0x000000000000000000000000030202010101000000000000000000000000000000000000 } ∷ []) ≡ true
unfolding counter_limit combine
book_h230_only_inductive_1_109 = refl

-- catches: 11 (ignoring usages takes away at most 1 of each kind), 12 (merging usages takes the higher counters, not the sums), 13 (merging usages replaces those merged before), 14 (extend_with keeps the weaker flags), 16 (extend_with by an inductive step leaves the flag empty), 19 (a known head gains whole counters), 20 (a known head gains no usages; panics), 24 (a nested goal's paths are replaced), 25 (a nested goal's paths stay as they are), 26 (a child's nested goals are not extended by the step), 30 (lower 0 lowers the depth too), 31 (lower 1 keeps the depth), 33 (lower 1 at depth 1 overflows), 35 (the depth is divided without an overflow), 41 (the root's depth is lowered), 51 (a finished goal does not lower its parent's reached depth), 54 (a cycle does not lower its parent's reached depth), 55 (candidate usages gain whole counters; panics), 56 (candidate usages leave out the heads below the frame), 61 (a new head gains no usages; panics), 62 (a child's nested goals are not taken over), 63 (a cycle does not insert the head into the nested goals), 65 (a goal is never among its own nested goals), 66 (a goal is among its own nested goals with the flag inductive), 69 (a child's nested goals do not insert the parent's own goal), 71 (a finished goal hands up its own depth, the required depth not subtracted), 75 (ignoring leaves the usages of lower heads), 84 (a goal whose heads are all unused goes to the global cache), 85 (every finished goal goes to the global cache), 86 (the global cache is never written), 100 (a pick ignores no usages), 102 (a pick ignores only candidates before the Yes), 106 (a pick stops at a Yes), 107 (a pick is combined as all), 110 (an empty all is No), 125 (lower 0 and 1 are confused), 126 (every goal is undecided), 150 (every book is turned away), 159 (depth T is refused), 184 (L = 0 is refused), 273 (L = 0 overflows at once), 287 (the run that reaches a fixpoint is not among the passes), 300 (passes stand last, after the flags), 303 (passes are counted from 0), 305 (the runs of the goals called are added), 315 (with L = 0 a held slot says no passes), 318 (a slot has no byte for passes: the length is document 01's)
pub book_h19_many_entries_1_335 : agrees (book (line 1 3 1 0 1 ∷ line 1 0 0 0 0 ∷ line 5 3 0 0 0 ∷ line 3 0 0 0 0 ∷ line 2 1 0 1 0 ∷ line 2 2 0 0 0 ∷ line 1 1 0 0 0 ∷ line 2 0 0 0 0 ∷ line 1 2 0 0 0 ∷ line 4 2 0 0 0 ∷ line 2 1 0 0 0 ∷ line 2 1 0 0 0 ∷ [])) (replicate 63 0)
    (record { goal = 1; depth = 1; work_length = 1764; answer = 1; refusal = 0; work_byte = 0; work_seen = 1764; cache = bytes 63 0x000000000000000000000000000000000000000000000000000000000000000000000002030201010101000000000000000000000000000000000000000000 } ∷ []) ≡ true
unfolding counter_limit combine
book_h19_many_entries_1_335 = refl

-- catches: 4 (a cycle path takes in the head's own step), 5 (extend takes the lesser kind), 7 (extend keeps the first kind), 14 (extend_with keeps the weaker flags), 24 (a nested goal's paths are replaced), 25 (a nested goal's paths stay as they are), 26 (a child's nested goals are not extended by the step), 30 (lower 0 lowers the depth too), 31 (lower 1 keeps the depth), 33 (lower 1 at depth 1 overflows), 35 (the depth is divided without an overflow), 41 (the root's depth is lowered), 42 (a cycle is looked for before the overflow at depth 0), 50 (the overflow mark is not handed to the parent), 51 (a finished goal does not lower its parent's reached depth), 62 (a child's nested goals are not taken over), 63 (a cycle does not insert the head into the nested goals), 65 (a goal is never among its own nested goals), 66 (a goal is among its own nested goals with the flag inductive), 69 (a child's nested goals do not insert the parent's own goal), 71 (a finished goal hands up its own depth, the required depth not subtracted), 73 (a cycle path leaves out the closing step), 74 (a cycle path is the closing step alone), 85 (every finished goal goes to the global cache), 86 (the global cache is never written), 87 (an entry's path starts at its lowest head), 96 (an overflow does not mark the frame), 97 (an overflow does not insert the frame's goal), 98 (an overflow inserts the goal that overflowed), 114 (inductive cycles begin with Yes, coinductive ones with No), 115 (unknown cycles begin with overflow, forced ones with undecided), 117 (too little depth is undecided), 124 (kinds 1 and 2 are confused), 125 (lower 0 and 1 are confused), 126 (every goal is undecided), 142 (a list that met overflow and nothing worse is undecided), 150 (every book is turned away), 159 (depth T is refused), 170 (overflow slots stand from depth T down), 184 (L = 0 is refused), 232 (a provisional hit does not compare the path), 273 (L = 0 overflows at once), 286 (the run of a frame that is no head is not among the passes), 287 (the run that reaches a fixpoint is not among the passes), 294 (a result that met overflow goes to the success slot), 300 (passes stand last, after the flags), 301 (an overflow slot says no passes), 303 (passes are counted from 0), 304 (the goal's runs in all frames of the query are added), 305 (the runs of the goals called are added), 315 (with L = 0 a held slot says no passes), 318 (a slot has no byte for passes: the length is document 01's)
pub book_h87_many_entries_1_794 : agrees (book (line 1 3 1 0 1 ∷ line 1 0 0 0 0 ∷ line 5 2 0 0 0 ∷ line 2 1 2 0 0 ∷ line 2 1 3 1 0 ∷ line 1 1 0 0 0 ∷ line 3 2 0 0 0 ∷ line 2 0 0 1 0 ∷ line 2 2 0 1 0 ∷ line 1 2 0 0 0 ∷ line 2 0 3 0 0 ∷ [])) (replicate 63 0)
    (record { goal = 2; depth = 1; work_length = 1764; answer = 3; refusal = 0; work_byte = 0; work_seen = 1764; cache = bytes 63 0x111010010103010000000000000000000000000000000000000000000001000100030100000000000000000000000000000000000000000000000000000000 } ∷ []) ≡ true
unfolding counter_limit combine
book_h87_many_entries_1_794 = refl

-- catches: 31 (lower 1 keeps the depth), 33 (lower 1 at depth 1 overflows), 35 (the depth is divided without an overflow), 41 (the root's depth is lowered), 51 (a finished goal does not lower its parent's reached depth), 52 (a global hit does not lower its parent's reached depth), 67 (a goal is always among its own nested goals), 72 (a global hit hands up its own depth, the required depth not subtracted), 86 (the global cache is never written), 111 (an empty any is Yes), 125 (lower 0 and 1 are confused), 126 (every goal is undecided), 150 (every book is turned away), 159 (depth T is refused), 184 (L = 0 is refused), 273 (L = 0 overflows at once), 286 (the run of a frame that is no head is not among the passes), 300 (passes stand last, after the flags), 303 (passes are counted from 0), 305 (the runs of the goals called are added), 311 (a hit counts as one pass more), 315 (with L = 0 a held slot says no passes), 318 (a slot has no byte for passes: the length is document 01's), 319 (a held slot says at most L passes, with L = 0 too)
pub book_h72_tangled_1_3 : agrees (book (line 1 3 2 0 1 ∷ line 1 0 0 0 0 ∷ line 4 0 0 0 0 ∷ line 1 1 0 0 0 ∷ line 2 2 0 1 0 ∷ line 1 2 0 0 0 ∷ line 2 0 0 1 0 ∷ [])) (replicate 84 0)
    (record { goal = 2; depth = 1; work_length = 1764; answer = 0; refusal = 0; work_byte = 0; work_seen = 1764; cache = bytes 84 0x000000000000000000000000000000000000000000000000010100010000000000000000000000000000000000000000000000000000000000000000000000000000000000000000000000000000000001000001 } ∷ record { goal = 1; depth = 2; work_length = 1764; answer = 0; refusal = 0; work_byte = 0; work_seen = 8; cache = bytes 84 0x000000000000000000000000000000000000000000000000010100010000000000000000000000000000000000000000000000000102000100000000000000000000000000000000000000000000000001000001 } ∷ []) ≡ true
unfolding counter_limit combine
book_h72_tangled_1_3 = refl

-- catches: 4 (a cycle path takes in the head's own step), 5 (extend takes the lesser kind), 7 (extend keeps the first kind), 10 (is_single is always true), 14 (extend_with keeps the weaker flags), 24 (a nested goal's paths are replaced), 25 (a nested goal's paths stay as they are), 26 (a child's nested goals are not extended by the step), 30 (lower 0 lowers the depth too), 31 (lower 1 keeps the depth), 32 (lower 0 at depth 0 overflows), 33 (lower 1 at depth 1 overflows), 35 (the depth is divided without an overflow), 41 (the root's depth is lowered), 43 (the caches are looked up before the overflow at depth 0), 50 (the overflow mark is not handed to the parent), 51 (a finished goal does not lower its parent's reached depth), 61 (a new head gains no usages), 62 (a child's nested goals are not taken over), 63 (a cycle does not insert the head into the nested goals), 65 (a goal is never among its own nested goals), 66 (a goal is among its own nested goals with the flag inductive), 69 (a child's nested goals do not insert the parent's own goal), 73 (a cycle path leaves out the closing step), 74 (a cycle path is the closing step alone), 85 (every finished goal goes to the global cache), 86 (the global cache is never written), 96 (an overflow does not mark the frame), 112 (of undecided and overflow the higher number counts, as in document 01), 113 (of undecided and overflow the last one met counts), 115 (unknown cycles begin with overflow, forced ones with undecided), 119 (unknown cycles begin with No), 120 (undecided and overflow are one kind of ambiguity), 121 (undecided is not ambiguous), 124 (kinds 1 and 2 are confused), 125 (lower 0 and 1 are confused), 126 (every goal is undecided), 131 (of undecided and overflow the first one met counts), 133 (all takes the higher number), 134 (any takes the higher number), 142 (a list that met overflow and nothing worse is undecided), 150 (every book is turned away), 159 (depth T is refused), 170 (overflow slots stand from depth T down), 184 (L = 0 is refused), 212 (ambiguity keeps every entry), 214 (ambiguity keeps entries of either ambiguous result), 215 (ambiguity makes dependent entries ambiguous instead of dropping them), 228 (rebasing for undecided keeps entries that overflowed, as undecided), 267 (an ambiguous result runs again), 269 (the step limit is tested before ambiguity), 273 (L = 0 overflows at once), 275 (the result of the first run is claimed), 289 (an ambiguous last run is not among the passes), 294 (a result that met overflow goes to the success slot), 300 (passes stand last, after the flags), 301 (an overflow slot says no passes), 303 (passes are counted from 0), 305 (the runs of the goals called are added), 315 (with L = 0 a held slot says no passes), 318 (a slot has no byte for passes: the length is document 01's)
pub book_h212_tangled_1_888 : agrees (book (line 1 3 1 0 1 ∷ line 1 0 0 0 0 ∷ line 4 2 0 0 0 ∷ line 2 1 3 0 0 ∷ line 2 2 3 1 0 ∷ line 1 1 0 0 0 ∷ line 3 2 0 0 0 ∷ line 2 2 0 0 0 ∷ line 2 1 1 1 0 ∷ line 1 2 0 0 0 ∷ line 3 2 0 0 0 ∷ line 2 0 0 0 0 ∷ line 2 1 3 1 0 ∷ [])) (replicate 63 0)
    (record { goal = 0; depth = 1; work_length = 1764; answer = 2; refusal = 0; work_byte = 0; work_seen = 1764; cache = bytes 63 0x000000000000000000000000000000000000000000000000000000000000000000000000000000000000101011010102010000000000000000000000000000 } ∷ []) ≡ true
unfolding counter_limit combine
book_h212_tangled_1_888 = refl

-- catches: 5 (extend takes the lesser kind), 7 (extend keeps the first kind), 10 (is_single is always true), 14 (extend_with keeps the weaker flags), 24 (a nested goal's paths are replaced), 25 (a nested goal's paths stay as they are), 26 (a child's nested goals are not extended by the step), 27 (a child's nested goals get the step's flag alone), 30 (lower 0 lowers the depth too), 31 (lower 1 keeps the depth), 33 (lower 1 at depth 1 overflows), 35 (the depth is divided without an overflow), 41 (the root's depth is lowered), 51 (a finished goal does not lower its parent's reached depth), 54 (a cycle does not lower its parent's reached depth), 56 (candidate usages leave out the heads below the frame), 60 (a frame named as a head without usages is no head; panics), 61 (a new head gains no usages; panics), 62 (a child's nested goals are not taken over), 63 (a cycle does not insert the head into the nested goals), 64 (a cycle inserts the head with the flag empty), 65 (a goal is never among its own nested goals), 66 (a goal is among its own nested goals with the flag inductive), 71 (a finished goal hands up its own depth, the required depth not subtracted), 74 (a cycle path is the closing step alone), 75 (ignoring leaves the usages of lower heads), 84 (a goal whose heads are all unused goes to the global cache), 85 (every finished goal goes to the global cache), 86 (the global cache is never written), 94 (the provisional cache is always off), 100 (a pick ignores no usages), 102 (a pick ignores only candidates before the Yes), 105 (a pick keeps the last Yes's usages, not the first's), 106 (a pick stops at a Yes), 110 (an empty all is No), 118 (the step limit is undecided), 119 (unknown cycles begin with No), 124 (kinds 1 and 2 are confused), 126 (every goal is undecided), 127 (a pick ignores all but each Yes), 136 (any is undecided where an earlier part was, in spite of a Yes), 143 (the step limit is undecided where a run met undecided), 150 (every book is turned away), 159 (depth T is refused), 184 (L = 0 is refused), 200 (an entry that does not use the popped head gains none of its heads), 203 (an entry that does not use the popped head is dropped), 220 (an entry's path is not carried on to the new highest head), 223 (entries are dropped with their highest head), 226 (an entry's path is carried on without the popped head's own step), 258 (at the step limit the last run is not among the passes), 259 (at the step limit one pass more is counted), 260 (a first fixpoint needs no single kind of usages), 272 (L = 0 means no limit), 273 (L = 0 overflows at once), 274 (at the step limit the last result is claimed), 275 (the result of the first run is claimed), 276 (the step limit marks the frame as met by overflow), 300 (passes stand last, after the flags), 303 (passes are counted from 0), 305 (the runs of the goals called are added), 315 (with L = 0 a held slot says no passes), 318 (a slot has no byte for passes: the length is document 01's)
pub book_h200_tangled_1_1063 : agrees (book (line 1 3 2 0 1 ∷ line 1 0 0 0 0 ∷ line 5 2 0 0 0 ∷ line 3 0 0 0 0 ∷ line 2 1 2 1 0 ∷ line 1 1 0 0 0 ∷ line 3 2 0 0 0 ∷ line 2 2 0 0 0 ∷ line 2 0 0 1 0 ∷ line 1 2 0 0 0 ∷ line 4 2 0 0 0 ∷ line 2 1 1 0 0 ∷ line 2 0 1 1 0 ∷ [])) (replicate 84 0)
    (record { goal = 2; depth = 2; work_length = 1764; answer = 3; refusal = 0; work_byte = 0; work_seen = 1764; cache = bytes 84 0x000000000000000000000000000000000000000000050c04010203010000000000000000000000000000000000000000000000000000000000000000000000000000000000000000000000000000000000000000 } ∷ []) ≡ true
unfolding counter_limit combine
book_h200_tangled_1_1063 = refl

-- catches: 10 (is_single is always true), 13 (merging usages replaces those merged before), 14 (extend_with keeps the weaker flags), 16 (extend_with by an inductive step leaves the flag empty), 24 (a nested goal's paths are replaced), 25 (a nested goal's paths stay as they are), 26 (a child's nested goals are not extended by the step), 27 (a child's nested goals get the step's flag alone), 30 (lower 0 lowers the depth too), 31 (lower 1 keeps the depth), 32 (lower 0 at depth 0 overflows), 33 (lower 1 at depth 1 overflows), 36 (the division rounds up), 41 (the root's depth is lowered), 42 (a cycle is looked for before the overflow at depth 0), 43 (the caches are looked up before the overflow at depth 0), 50 (the overflow mark is not handed to the parent), 51 (a finished goal does not lower its parent's reached depth), 56 (candidate usages leave out the heads below the frame), 57 (candidate usages leave out the frame's own usages), 61 (a new head gains no usages; panics), 62 (a child's nested goals are not taken over), 63 (a cycle does not insert the head into the nested goals), 65 (a goal is never among its own nested goals), 66 (a goal is among its own nested goals with the flag inductive), 69 (a child's nested goals do not insert the parent's own goal), 73 (a cycle path leaves out the closing step), 75 (ignoring leaves the usages of lower heads), 76 (ignoring leaves the frame's own usages), 84 (a goal whose heads are all unused goes to the global cache), 85 (every finished goal goes to the global cache), 86 (the global cache is never written), 96 (an overflow does not mark the frame), 97 (an overflow does not insert the frame's goal), 98 (an overflow inserts the goal that overflowed), 100 (a pick ignores no usages), 102 (a pick ignores only candidates before the Yes), 106 (a pick stops at a Yes), 107 (a pick is combined as all), 110 (an empty all is No), 117 (too little depth is undecided), 124 (kinds 1 and 2 are confused), 125 (lower 0 and 1 are confused), 126 (every goal is undecided), 128 (a pick does not ignore ambiguous candidates), 137 (a pick is undecided where a candidate was, in spite of a Yes), 144 (too little depth is undecided where undecided was met before), 150 (every book is turned away), 159 (depth T is refused), 170 (overflow slots stand from depth T down), 184 (L = 0 is refused), 218 (a first fixpoint keeps every entry), 232 (a provisional hit does not compare the path), 233 (an entry that met overflow is always used), 248 (a global hit does not hand on the nested goals), 273 (L = 0 overflows at once), 275 (the result of the first run is claimed), 286 (the run of a frame that is no head is not among the passes), 287 (the run that reaches a fixpoint is not among the passes), 294 (a result that met overflow goes to the success slot), 300 (passes stand last, after the flags), 301 (an overflow slot says no passes), 303 (passes are counted from 0), 304 (the goal's runs in all frames of the query are added), 305 (the runs of the goals called are added), 311 (a hit counts as one pass more), 315 (with L = 0 a held slot says no passes), 318 (a slot has no byte for passes: the length is document 01's)
pub book_h218_many_entries_1_565 : agrees (book (line 1 3 1 0 2 ∷ line 1 0 0 0 0 ∷ line 5 4 0 0 0 ∷ line 3 0 0 0 0 ∷ line 2 2 0 1 0 ∷ line 2 1 0 0 0 ∷ line 2 1 3 1 0 ∷ line 1 1 0 0 0 ∷ line 2 0 0 1 0 ∷ line 1 2 0 0 0 ∷ line 3 2 0 0 0 ∷ line 2 0 1 0 0 ∷ line 2 0 1 1 0 ∷ [])) (replicate 63 0)
    (record { goal = 2; depth = 1; work_length = 1764; answer = 1; refusal = 0; work_byte = 0; work_seen = 1764; cache = bytes 63 0x051404010101010000000000000000000000000000000000000000000001000100030100000000000000000000000000000002010100010100000000000000 } ∷ []) ≡ true
unfolding counter_limit combine
book_h218_many_entries_1_565 = refl

-- catches: 10 (is_single is always true), 14 (extend_with keeps the weaker flags), 15 (extend_with adds the step's flag where all paths are stronger), 16 (extend_with by an inductive step leaves the flag empty), 24 (a nested goal's paths are replaced), 25 (a nested goal's paths stay as they are), 26 (a child's nested goals are not extended by the step), 27 (a child's nested goals get the step's flag alone), 30 (lower 0 lowers the depth too), 31 (lower 1 keeps the depth), 33 (lower 1 at depth 1 overflows), 35 (the depth is divided without an overflow), 41 (the root's depth is lowered), 42 (a cycle is looked for before the overflow at depth 0), 43 (the caches are looked up before the overflow at depth 0), 50 (the overflow mark is not handed to the parent), 51 (a finished goal does not lower its parent's reached depth), 61 (a new head gains no usages), 62 (a child's nested goals are not taken over), 63 (a cycle does not insert the head into the nested goals), 65 (a goal is never among its own nested goals), 66 (a goal is among its own nested goals with the flag inductive), 69 (a child's nested goals do not insert the parent's own goal), 71 (a finished goal hands up its own depth, the required depth not subtracted), 73 (a cycle path leaves out the closing step), 85 (every finished goal goes to the global cache), 86 (the global cache is never written), 88 (an entry's path leaves out the goal's own step), 96 (an overflow does not mark the frame), 97 (an overflow does not insert the frame's goal), 98 (an overflow inserts the goal that overflowed), 110 (an empty all is No), 115 (unknown cycles begin with overflow, forced ones with undecided), 117 (too little depth is undecided), 118 (the step limit is undecided), 124 (kinds 1 and 2 are confused), 125 (lower 0 and 1 are confused), 126 (every goal is undecided), 136 (any is undecided where an earlier part was, in spite of a Yes), 143 (the step limit is undecided where a run met undecided), 144 (too little depth is undecided where undecided was met before), 150 (every book is turned away), 159 (depth T is refused), 170 (overflow slots stand from depth T down), 184 (L = 0 is refused), 212 (ambiguity keeps every entry), 214 (ambiguity keeps entries of either ambiguous result), 215 (ambiguity makes dependent entries ambiguous instead of dropping them), 227 (rebasing for an overflow keeps undecided entries too), 232 (a provisional hit does not compare the path), 258 (at the step limit the last run is not among the passes), 259 (at the step limit one pass more is counted), 260 (a first fixpoint needs no single kind of usages), 272 (L = 0 means no limit), 273 (L = 0 overflows at once), 274 (at the step limit the last result is claimed), 275 (the result of the first run is claimed), 276 (the step limit marks the frame as met by overflow), 277 (at the step limit entries that are undecided are kept, not those that overflowed), 286 (the run of a frame that is no head is not among the passes), 294 (a result that met overflow goes to the success slot), 300 (passes stand last, after the flags), 301 (an overflow slot says no passes), 303 (passes are counted from 0), 304 (the goal's runs in all frames of the query are added), 305 (the runs of the goals called are added), 315 (with L = 0 a held slot says no passes), 318 (a slot has no byte for passes: the length is document 01's)
pub book_h214_many_entries_1_2689 : agrees (book (line 1 3 2 0 1 ∷ line 1 0 0 0 0 ∷ line 4 3 0 0 0 ∷ line 2 1 1 1 0 ∷ line 2 2 0 1 0 ∷ line 3 0 0 0 0 ∷ line 1 1 0 0 0 ∷ line 2 0 0 1 0 ∷ line 1 2 0 0 0 ∷ line 4 2 0 0 0 ∷ line 2 0 1 0 0 ∷ line 2 0 0 1 0 ∷ [])) (replicate 84 0)
    (record { goal = 2; depth = 2; work_length = 1764; answer = 3; refusal = 0; work_byte = 0; work_seen = 1764; cache = bytes 84 0x070406010203010000000000000000000000000000000000000000000000000000000000000000000000000100010003010000000000000000000000000000000000000000000000000000000000000000000000 } ∷ []) ≡ true
unfolding counter_limit combine
book_h214_many_entries_1_2689 = refl

-- catches: 5 (extend takes the lesser kind), 7 (extend keeps the first kind), 10 (is_single is always true), 14 (extend_with keeps the weaker flags), 15 (extend_with adds the step's flag where all paths are stronger), 16 (extend_with by an inductive step leaves the flag empty), 24 (a nested goal's paths are replaced), 25 (a nested goal's paths stay as they are), 26 (a child's nested goals are not extended by the step), 27 (a child's nested goals get the step's flag alone), 30 (lower 0 lowers the depth too), 31 (lower 1 keeps the depth), 33 (lower 1 at depth 1 overflows), 35 (the depth is divided without an overflow), 41 (the root's depth is lowered), 51 (a finished goal does not lower its parent's reached depth), 54 (a cycle does not lower its parent's reached depth), 61 (a new head gains no usages), 62 (a child's nested goals are not taken over), 63 (a cycle does not insert the head into the nested goals), 64 (a cycle inserts the head with the flag empty), 65 (a goal is never among its own nested goals), 66 (a goal is among its own nested goals with the flag inductive), 68 (a provisional hit does not insert the parent's own goal), 69 (a child's nested goals do not insert the parent's own goal), 71 (a finished goal hands up its own depth, the required depth not subtracted), 73 (a cycle path leaves out the closing step), 74 (a cycle path is the closing step alone), 81 (a cycle is looked for before both caches), 85 (every finished goal goes to the global cache), 86 (the global cache is never written), 88 (an entry's path leaves out the goal's own step), 92 (no entry is kept of an ambiguous result), 94 (the provisional cache is always off), 110 (an empty all is No), 116 (undecided and overflow are confused as initial results), 118 (the step limit is undecided), 124 (kinds 1 and 2 are confused), 126 (every goal is undecided), 129 (undecided and overflow are never initial results), 136 (any is undecided where an earlier part was, in spite of a Yes), 143 (the step limit is undecided where a run met undecided), 150 (every book is turned away), 159 (depth T is refused), 184 (L = 0 is refused), 219 (a first fixpoint drops every dependent entry), 221 (an entry's path becomes that of the popped head), 223 (entries are dropped with their highest head), 232 (a provisional hit does not compare the path), 238 (a provisional hit does not hand on the heads), 251 (a cycle counts as a usage of the closing step's kind), 258 (at the step limit the last run is not among the passes), 259 (at the step limit one pass more is counted), 260 (a first fixpoint needs no single kind of usages), 262 (a first run is never a fixpoint), 266 (ambiguity is tested before the fixpoint), 272 (L = 0 means no limit), 273 (L = 0 overflows at once), 274 (at the step limit the last result is claimed), 275 (the result of the first run is claimed), 276 (the step limit marks the frame as met by overflow), 300 (passes stand last, after the flags), 303 (passes are counted from 0), 305 (the runs of the goals called are added), 315 (with L = 0 a held slot says no passes), 318 (a slot has no byte for passes: the length is document 01's)
pub book_h116_many_entries_1_3748 : agrees (book (line 1 3 2 0 1 ∷ line 1 0 0 0 0 ∷ line 4 2 0 0 0 ∷ line 2 1 0 0 0 ∷ line 2 2 0 0 0 ∷ line 1 1 0 0 0 ∷ line 4 2 0 0 0 ∷ line 2 2 1 1 0 ∷ line 2 0 1 0 0 ∷ line 1 2 0 0 0 ∷ line 4 3 0 0 0 ∷ line 2 2 1 1 0 ∷ line 2 1 0 1 0 ∷ line 3 0 0 0 0 ∷ [])) (replicate 84 0)
    (record { goal = 0; depth = 2; work_length = 1764; answer = 3; refusal = 0; work_byte = 0; work_seen = 1764; cache = bytes 84 0x000000000000000000000000000000000000000000000000000000000000000000000000000000000000000000000000000000000000000000000000000000000000000000000000000000000006060501020301 } ∷ []) ≡ true
unfolding counter_limit combine
book_h116_many_entries_1_3748 = refl

-- catches: 2 (a rerun forgets the heads), 5 (extend takes the lesser kind), 14 (extend_with keeps the weaker flags), 15 (extend_with adds the step's flag where all paths are stronger), 16 (extend_with by an inductive step leaves the flag empty), 21 (a known head's paths are replaced), 24 (a nested goal's paths are replaced), 25 (a nested goal's paths stay as they are), 26 (a child's nested goals are not extended by the step), 27 (a child's nested goals get the step's flag alone), 30 (lower 0 lowers the depth too), 31 (lower 1 keeps the depth), 32 (lower 0 at depth 0 overflows), 33 (lower 1 at depth 1 overflows), 35 (the depth is divided without an overflow), 41 (the root's depth is lowered), 42 (a cycle is looked for before the overflow at depth 0), 43 (the caches are looked up before the overflow at depth 0), 50 (the overflow mark is not handed to the parent), 51 (a finished goal does not lower its parent's reached depth), 62 (a child's nested goals are not taken over), 63 (a cycle does not insert the head into the nested goals), 64 (a cycle inserts the head with the flag empty), 65 (a goal is never among its own nested goals), 66 (a goal is among its own nested goals with the flag inductive), 69 (a child's nested goals do not insert the parent's own goal), 73 (a cycle path leaves out the closing step), 85 (every finished goal goes to the global cache), 86 (the global cache is never written), 96 (an overflow does not mark the frame), 98 (an overflow inserts the goal that overflowed), 115 (unknown cycles begin with overflow, forced ones with undecided), 117 (too little depth is undecided), 122 (overflow is not ambiguous), 124 (kinds 1 and 2 are confused), 125 (lower 0 and 1 are confused), 126 (every goal is undecided), 142 (a list that met overflow and nothing worse is undecided), 150 (every book is turned away), 159 (depth T is refused), 170 (overflow slots stand from depth T down), 205 (rebasing does not check the paths), 207 (rebasing checks the first path to the popped head alone), 224 (an entry that lost its last head is kept; panics), 232 (a provisional hit does not compare the path), 267 (an ambiguous result runs again), 279 (a rerun forgets the nested goals), 287 (the run that reaches a fixpoint is not among the passes), 289 (an ambiguous last run is not among the passes), 294 (a result that met overflow goes to the success slot), 300 (passes stand last, after the flags), 301 (an overflow slot says no passes), 303 (passes are counted from 0), 304 (the goal's runs in all frames of the query are added), 305 (the runs of the goals called are added), 318 (a slot has no byte for passes: the length is document 01's)
pub book_h21_many_entries_1_210 : agrees (book (line 1 3 1 2 1 ∷ line 1 0 0 0 0 ∷ line 4 2 0 0 0 ∷ line 2 2 0 0 0 ∷ line 2 1 2 1 0 ∷ line 1 1 0 0 0 ∷ line 3 2 0 0 0 ∷ line 2 0 0 0 0 ∷ line 2 2 0 1 0 ∷ line 1 2 0 0 0 ∷ line 3 2 0 0 0 ∷ line 2 0 3 0 0 ∷ line 2 0 0 1 0 ∷ [])) (replicate 63 0)
    (record { goal = 1; depth = 1; work_length = 1764; answer = 3; refusal = 0; work_byte = 0; work_seen = 1764; cache = bytes 63 0x000000000000001100100100030100000000000000120912010103010000000000000000000000000000000000000000000000000000000000000000000000 } ∷ []) ≡ true
unfolding counter_limit combine
book_h21_many_entries_1_210 = refl

-- catches: 5 (extend takes the lesser kind), 7 (extend keeps the first kind), 14 (extend_with keeps the weaker flags), 24 (a nested goal's paths are replaced), 25 (a nested goal's paths stay as they are), 26 (a child's nested goals are not extended by the step), 30 (lower 0 lowers the depth too), 31 (lower 1 keeps the depth), 33 (lower 1 at depth 1 overflows), 35 (the depth is divided without an overflow), 41 (the root's depth is lowered), 51 (a finished goal does not lower its parent's reached depth), 54 (a cycle does not lower its parent's reached depth), 55 (candidate usages gain whole counters; panics), 56 (candidate usages leave out the heads below the frame), 57 (candidate usages leave out the frame's own usages), 59 (the frame's own usages gain whole counters), 61 (a new head gains no usages; panics), 62 (a child's nested goals are not taken over), 63 (a cycle does not insert the head into the nested goals), 65 (a goal is never among its own nested goals), 66 (a goal is among its own nested goals with the flag inductive), 71 (a finished goal hands up its own depth, the required depth not subtracted), 75 (ignoring leaves the usages of lower heads), 76 (ignoring leaves the frame's own usages), 84 (a goal whose heads are all unused goes to the global cache), 85 (every finished goal goes to the global cache), 86 (the global cache is never written), 94 (the provisional cache is always off), 100 (a pick ignores no usages), 102 (a pick ignores only candidates before the Yes), 103 (a pick ignores only candidates after the Yes), 104 (a pick ignores all usages without a Yes too), 106 (a pick stops at a Yes), 107 (a pick is combined as all), 110 (an empty all is No), 125 (lower 0 and 1 are confused), 126 (every goal is undecided), 128 (a pick does not ignore ambiguous candidates), 150 (every book is turned away), 159 (depth T is refused), 184 (L = 0 is refused), 200 (an entry that does not use the popped head gains none of its heads), 202 (heads gained unused get the popped head's usages), 203 (an entry that does not use the popped head is dropped), 204 (ambiguity drops entries that do not use the popped head), 220 (an entry's path is not carried on to the new highest head), 223 (entries are dropped with their highest head), 226 (an entry's path is carried on without the popped head's own step), 272 (L = 0 means no limit), 273 (L = 0 overflows at once), 276 (the step limit marks the frame as met by overflow), 287 (the run that reaches a fixpoint is not among the passes), 300 (passes stand last, after the flags), 303 (passes are counted from 0), 305 (the runs of the goals called are added), 315 (with L = 0 a held slot says no passes), 318 (a slot has no byte for passes: the length is document 01's)
pub book_h200_picks_1_3876 : agrees (book (line 1 3 2 0 1 ∷ line 1 0 0 0 0 ∷ line 4 3 0 0 0 ∷ line 2 1 0 0 0 ∷ line 5 2 0 0 0 ∷ line 2 1 0 1 0 ∷ line 2 0 0 1 0 ∷ line 2 2 0 0 0 ∷ line 1 1 0 0 0 ∷ line 5 2 0 0 0 ∷ line 2 0 3 1 0 ∷ line 2 2 3 1 0 ∷ line 1 2 0 0 0 ∷ line 5 2 0 0 0 ∷ line 3 0 0 0 0 ∷ line 2 0 0 1 0 ∷ [])) (replicate 84 0)
    (record { goal = 1; depth = 2; work_length = 1764; answer = 1; refusal = 0; work_byte = 0; work_seen = 1764; cache = bytes 84 0x000000000000000000000000000000000000000000000000000000000000000000000000000000000000000000000000001011100102010100000000000000000000000000000000000000000000000000000000 } ∷ []) ≡ true
unfolding counter_limit combine
book_h200_picks_1_3876 = refl

-- catches: 5 (extend takes the lesser kind), 7 (extend keeps the first kind), 14 (extend_with keeps the weaker flags), 24 (a nested goal's paths are replaced), 25 (a nested goal's paths stay as they are), 26 (a child's nested goals are not extended by the step), 30 (lower 0 lowers the depth too), 31 (lower 1 keeps the depth), 32 (lower 0 at depth 0 overflows), 33 (lower 1 at depth 1 overflows), 35 (the depth is divided without an overflow), 41 (the root's depth is lowered), 42 (a cycle is looked for before the overflow at depth 0), 46 (a success slot applies at any depth; panics), 50 (the overflow mark is not handed to the parent), 51 (a finished goal does not lower its parent's reached depth), 54 (a cycle does not lower its parent's reached depth), 62 (a child's nested goals are not taken over), 63 (a cycle does not insert the head into the nested goals), 64 (a cycle inserts the head with the flag empty), 65 (a goal is never among its own nested goals), 66 (a goal is among its own nested goals with the flag inductive), 69 (a child's nested goals do not insert the parent's own goal), 71 (a finished goal hands up its own depth, the required depth not subtracted), 74 (a cycle path is the closing step alone), 80 (the global cache is looked up before the provisional one), 85 (every finished goal goes to the global cache), 86 (the global cache is never written), 91 (no entry is kept of a goal that met overflow), 92 (no entry is kept of an ambiguous result), 94 (the provisional cache is always off), 96 (an overflow does not mark the frame), 108 (all does not stop at a No), 114 (inductive cycles begin with Yes, coinductive ones with No), 117 (too little depth is undecided), 122 (overflow is not ambiguous), 124 (kinds 1 and 2 are confused), 125 (lower 0 and 1 are confused), 126 (every goal is undecided), 142 (a list that met overflow and nothing worse is undecided), 150 (every book is turned away), 159 (depth T is refused), 170 (overflow slots stand from depth T down), 234 (an entry that met overflow is never used), 235 (an entry that met overflow is not used where the lowest head is its highest), 262 (a first run is never a fixpoint), 267 (an ambiguous result runs again), 287 (the run that reaches a fixpoint is not among the passes), 289 (an ambiguous last run is not among the passes), 294 (a result that met overflow goes to the success slot), 300 (passes stand last, after the flags), 301 (an overflow slot says no passes), 303 (passes are counted from 0), 305 (the runs of the goals called are added), 318 (a slot has no byte for passes: the length is document 01's)
pub book_h80_overflow_1_346 : agrees (book (line 1 3 2 2 1 ∷ line 1 0 0 0 0 ∷ line 3 2 0 0 0 ∷ line 2 0 0 1 0 ∷ line 2 1 0 0 0 ∷ line 1 1 0 0 0 ∷ line 2 2 2 1 0 ∷ line 1 2 0 0 0 ∷ line 3 2 0 0 0 ∷ line 2 0 0 1 0 ∷ line 2 0 0 1 0 ∷ [])) (replicate 84 0)
    (record { goal = 0; depth = 1; work_length = 1764; answer = 0; refusal = 0; work_byte = 0; work_seen = 1764; cache = bytes 84 0x000000000000000000000000000000000000000000000000000000000000000000000000000000000000000000000000000000000000000000000000000000000000000000000000000000000000000301010001 } ∷ record { goal = 1; depth = 2; work_length = 1764; answer = 3; refusal = 0; work_byte = 0; work_seen = 8; cache = bytes 84 0x000000000000000000000000000000000000000000000000000000000809080102030100000000000000000000000000000000000000000000000000000000000000000000000000000000000000000301010001 } ∷ []) ≡ true
unfolding counter_limit combine
book_h80_overflow_1_346 = refl

-- catches: 5 (extend takes the lesser kind), 7 (extend keeps the first kind), 14 (extend_with keeps the weaker flags), 15 (extend_with adds the step's flag where all paths are stronger), 16 (extend_with by an inductive step leaves the flag empty), 24 (a nested goal's paths are replaced), 25 (a nested goal's paths stay as they are), 26 (a child's nested goals are not extended by the step), 27 (a child's nested goals get the step's flag alone), 30 (lower 0 lowers the depth too), 31 (lower 1 keeps the depth), 32 (lower 0 at depth 0 overflows), 33 (lower 1 at depth 1 overflows), 35 (the depth is divided without an overflow), 41 (the root's depth is lowered), 42 (a cycle is looked for before the overflow at depth 0), 50 (the overflow mark is not handed to the parent), 51 (a finished goal does not lower its parent's reached depth), 61 (a new head gains no usages), 62 (a child's nested goals are not taken over), 63 (a cycle does not insert the head into the nested goals), 64 (a cycle inserts the head with the flag empty), 65 (a goal is never among its own nested goals), 66 (a goal is among its own nested goals with the flag inductive), 69 (a child's nested goals do not insert the parent's own goal), 73 (a cycle path leaves out the closing step), 74 (a cycle path is the closing step alone), 85 (every finished goal goes to the global cache), 86 (the global cache is never written), 96 (an overflow does not mark the frame), 97 (an overflow does not insert the frame's goal), 98 (an overflow inserts the goal that overflowed), 112 (of undecided and overflow the higher number counts, as in document 01), 113 (of undecided and overflow the last one met counts), 117 (too little depth is undecided), 119 (unknown cycles begin with No), 121 (undecided is not ambiguous), 124 (kinds 1 and 2 are confused), 125 (lower 0 and 1 are confused), 126 (every goal is undecided), 133 (all takes the higher number), 134 (any takes the higher number), 142 (a list that met overflow and nothing worse is undecided), 144 (too little depth is undecided where undecided was met before), 150 (every book is turned away), 159 (depth T is refused), 170 (overflow slots stand from depth T down), 184 (L = 0 is refused), 205 (rebasing does not check the paths), 209 (heads gained through the popped head get the entry's paths alone), 210 (heads gained through the popped head get no usages), 267 (an ambiguous result runs again), 269 (the step limit is tested before ambiguity), 273 (L = 0 overflows at once), 286 (the run of a frame that is no head is not among the passes), 287 (the run that reaches a fixpoint is not among the passes), 294 (a result that met overflow goes to the success slot), 300 (passes stand last, after the flags), 301 (an overflow slot says no passes), 303 (passes are counted from 0), 304 (the goal's runs in all frames of the query are added), 305 (the runs of the goals called are added), 315 (with L = 0 a held slot says no passes), 318 (a slot has no byte for passes: the length is document 01's)
pub book_h209_many_entries_1_3565 : agrees (book (line 1 4 1 0 1 ∷ line 1 0 0 0 0 ∷ line 3 3 0 0 0 ∷ line 2 1 0 1 0 ∷ line 2 3 1 0 0 ∷ line 2 2 3 1 0 ∷ line 1 1 0 0 0 ∷ line 4 2 0 0 0 ∷ line 2 2 1 0 0 ∷ line 2 0 0 1 0 ∷ line 1 2 0 0 0 ∷ line 2 0 0 0 0 ∷ line 1 3 0 0 0 ∷ line 2 0 0 1 0 ∷ [])) (replicate 96 0)
    (record { goal = 1; depth = 1; work_length = 3008; answer = 2; refusal = 0; work_byte = 0; work_seen = 3008; cache = bytes 96 0x000000000000000001000000010003010000000000000000000000000000000000000000000000000000000000000000041405060101020100000000000000000000000000000000000000000000000004000001010003010000000000000000 } ∷ []) ≡ true
unfolding counter_limit combine
book_h209_many_entries_1_3565 = refl

-- catches: 5 (extend takes the lesser kind), 7 (extend keeps the first kind), 14 (extend_with keeps the weaker flags), 16 (extend_with by an inductive step leaves the flag empty), 20 (a known head gains no usages; panics), 22 (a known head's paths stay as they are), 24 (a nested goal's paths are replaced), 25 (a nested goal's paths stay as they are), 26 (a child's nested goals are not extended by the step), 27 (a child's nested goals get the step's flag alone), 31 (lower 1 keeps the depth), 33 (lower 1 at depth 1 overflows), 34 (after an overflow the depth is not divided), 35 (the depth is divided without an overflow), 37 (after an overflow the depth is divided and lowered), 39 (after an overflow the depth is lowered at least by 1), 41 (the root's depth is lowered), 42 (a cycle is looked for before the overflow at depth 0), 50 (the overflow mark is not handed to the parent), 51 (a finished goal does not lower its parent's reached depth), 52 (a global hit does not lower its parent's reached depth), 60 (a frame named as a head without usages is no head; panics), 61 (a new head gains no usages; panics), 62 (a child's nested goals are not taken over), 63 (a cycle does not insert the head into the nested goals), 64 (a cycle inserts the head with the flag empty), 65 (a goal is never among its own nested goals), 66 (a goal is among its own nested goals with the flag inductive), 69 (a child's nested goals do not insert the parent's own goal), 73 (a cycle path leaves out the closing step), 74 (a cycle path is the closing step alone), 84 (a goal whose heads are all unused goes to the global cache), 85 (every finished goal goes to the global cache), 86 (the global cache is never written), 96 (an overflow does not mark the frame), 97 (an overflow does not insert the frame's goal), 98 (an overflow inserts the goal that overflowed), 100 (a pick ignores no usages), 102 (a pick ignores only candidates before the Yes), 106 (a pick stops at a Yes), 107 (a pick is combined as all), 110 (an empty all is No), 114 (inductive cycles begin with Yes, coinductive ones with No), 117 (too little depth is undecided), 124 (kinds 1 and 2 are confused), 125 (lower 0 and 1 are confused), 126 (every goal is undecided), 150 (every book is turned away), 159 (depth T is refused), 170 (overflow slots stand from depth T down), 184 (L = 0 is refused), 205 (rebasing does not check the paths), 206 (rebasing leaves the entry's own path out of the check), 247 (a global hit does not hand on the overflow mark), 248 (a global hit does not hand on the nested goals), 273 (L = 0 overflows at once), 286 (the run of a frame that is no head is not among the passes), 287 (the run that reaches a fixpoint is not among the passes), 293 (an overflow slot applies above its depth too), 294 (a result that met overflow goes to the success slot), 295 (the overflow slot one depth lower is looked up), 300 (passes stand last, after the flags), 301 (an overflow slot says no passes), 303 (passes are counted from 0), 304 (the goal's runs in all frames of the query are added), 305 (the runs of the goals called are added), 311 (a hit counts as one pass more), 315 (with L = 0 a held slot says no passes), 318 (a slot has no byte for passes: the length is document 01's)
pub book_h22_picks_1_715 : agrees (book (line 1 3 1 0 1 ∷ line 1 0 0 0 0 ∷ line 5 2 0 0 0 ∷ line 2 1 0 1 0 ∷ line 3 2 0 0 0 ∷ line 2 1 0 1 0 ∷ line 2 2 2 1 0 ∷ line 1 1 0 0 0 ∷ line 5 3 0 0 0 ∷ line 3 0 0 0 0 ∷ line 3 3 0 0 0 ∷ line 2 2 0 1 0 ∷ line 2 2 2 1 0 ∷ line 2 0 2 1 0 ∷ line 2 0 0 1 0 ∷ line 1 2 0 0 0 ∷ line 2 1 0 1 0 ∷ [])) (replicate 63 0)
    (record { goal = 0; depth = 1; work_length = 1764; answer = 1; refusal = 0; work_byte = 0; work_seen = 1764; cache = bytes 63 0x0102000101010101000001000301000000000000000000000000000000010001000101000000000000000a0a0b010101010000000000000000000000000000 } ∷ []) ≡ true
unfolding counter_limit combine
book_h22_picks_1_715 = refl

-- catches: 14 (extend_with keeps the weaker flags), 15 (extend_with adds the step's flag where all paths are stronger), 16 (extend_with by an inductive step leaves the flag empty), 24 (a nested goal's paths are replaced), 25 (a nested goal's paths stay as they are), 26 (a child's nested goals are not extended by the step), 27 (a child's nested goals get the step's flag alone), 30 (lower 0 lowers the depth too), 31 (lower 1 keeps the depth), 32 (lower 0 at depth 0 overflows), 33 (lower 1 at depth 1 overflows), 35 (the depth is divided without an overflow), 41 (the root's depth is lowered), 42 (a cycle is looked for before the overflow at depth 0), 50 (the overflow mark is not handed to the parent), 51 (a finished goal does not lower its parent's reached depth), 62 (a child's nested goals are not taken over), 63 (a cycle does not insert the head into the nested goals), 65 (a goal is never among its own nested goals), 66 (a goal is among its own nested goals with the flag inductive), 69 (a child's nested goals do not insert the parent's own goal), 71 (a finished goal hands up its own depth, the required depth not subtracted), 85 (every finished goal goes to the global cache), 86 (the global cache is never written), 91 (no entry is kept of a goal that met overflow), 92 (no entry is kept of an ambiguous result), 94 (the provisional cache is always off), 96 (an overflow does not mark the frame), 115 (unknown cycles begin with overflow, forced ones with undecided), 117 (too little depth is undecided), 125 (lower 0 and 1 are confused), 126 (every goal is undecided), 142 (a list that met overflow and nothing worse is undecided), 150 (every book is turned away), 159 (depth T is refused), 170 (overflow slots stand from depth T down), 234 (an entry that met overflow is never used), 235 (an entry that met overflow is not used where the lowest head is its highest), 236 (an entry that met overflow is measured by the frame's highest head), 287 (the run that reaches a fixpoint is not among the passes), 294 (a result that met overflow goes to the success slot), 300 (passes stand last, after the flags), 301 (an overflow slot says no passes), 303 (passes are counted from 0), 305 (the runs of the goals called are added), 318 (a slot has no byte for passes: the length is document 01's)
pub book_h236_many_entries_1_55 : agrees (book (line 1 4 2 2 1 ∷ line 1 0 0 0 0 ∷ line 5 3 0 0 0 ∷ line 2 3 0 1 0 ∷ line 2 2 0 0 0 ∷ line 2 3 2 0 0 ∷ line 1 1 0 0 0 ∷ line 2 2 0 0 0 ∷ line 1 2 0 0 0 ∷ line 2 0 3 1 0 ∷ line 1 3 0 0 0 ∷ line 4 2 0 0 0 ∷ line 2 1 0 0 0 ∷ line 2 0 0 1 0 ∷ [])) (replicate 128 0)
    (record { goal = 1; depth = 2; work_length = 3008; answer = 3; refusal = 0; work_byte = 0; work_seen = 3008; cache = bytes 128 0x0000000000000000000000000000000000000000000000000000000000000000000000000000000000000000000000000000000000000000000000000000000010121110010203010000000000000000000000000000000000000000000000000000000000000000000000000000000000000000000000000000000000000000 } ∷ []) ≡ true
unfolding counter_limit combine
book_h236_many_entries_1_55 = refl

-- catches: 3 (a rerun keeps the entries that depend on the old provisional result), 5 (extend takes the lesser kind), 6 (extend: unknown is stronger than coinductive), 7 (extend keeps the first kind), 9 (is_single asks whether the kind is used, whatever else is), 10 (is_single is always true), 14 (extend_with keeps the weaker flags), 15 (extend_with adds the step's flag where all paths are stronger), 16 (extend_with by an inductive step leaves the flag empty), 24 (a nested goal's paths are replaced), 25 (a nested goal's paths stay as they are), 26 (a child's nested goals are not extended by the step), 27 (a child's nested goals get the step's flag alone), 30 (lower 0 lowers the depth too), 31 (lower 1 keeps the depth), 32 (lower 0 at depth 0 overflows), 33 (lower 1 at depth 1 overflows), 35 (the depth is divided without an overflow), 41 (the root's depth is lowered), 51 (a finished goal does not lower its parent's reached depth), 61 (a new head gains no usages), 62 (a child's nested goals are not taken over), 63 (a cycle does not insert the head into the nested goals), 64 (a cycle inserts the head with the flag empty), 65 (a goal is never among its own nested goals), 66 (a goal is among its own nested goals with the flag inductive), 69 (a child's nested goals do not insert the parent's own goal), 71 (a finished goal hands up its own depth, the required depth not subtracted), 73 (a cycle path leaves out the closing step), 74 (a cycle path is the closing step alone), 85 (every finished goal goes to the global cache), 86 (the global cache is never written), 88 (an entry's path leaves out the goal's own step), 94 (the provisional cache is always off), 108 (all does not stop at a No), 114 (inductive cycles begin with Yes, coinductive ones with No), 124 (kinds 1 and 2 are confused), 126 (every goal is undecided), 130 (all is undecided where an earlier part was, in spite of a No), 150 (every book is turned away), 159 (depth T is refused), 216 (a later fixpoint drops dependent entries), 217 (a later fixpoint keeps entries as a first one does), 221 (an entry's path becomes that of the popped head), 223 (entries are dropped with their highest head), 232 (a provisional hit does not compare the path), 250 (in a rerun a cycle gives the initial result again), 251 (a cycle counts as a usage of the closing step's kind), 260 (a first fixpoint needs no single kind of usages), 271 (L - 1 runs are allowed), 275 (the result of the first run is claimed), 279 (a rerun forgets the nested goals), 280 (a rerun forgets the depth reached), 287 (the run that reaches a fixpoint is not among the passes), 298 (dropped entries count on for refusal 10), 300 (passes stand last, after the flags), 303 (passes are counted from 0), 305 (the runs of the goals called are added), 306 (every rerun starts the count anew), 318 (a slot has no byte for passes: the length is document 01's)
pub book_h216_many_entries_1_1897 : agrees (book (line 1 3 2 2 1 ∷ line 1 0 0 0 0 ∷ line 3 3 0 0 0 ∷ line 2 2 3 0 0 ∷ line 2 1 2 1 0 ∷ line 2 1 0 0 0 ∷ line 1 1 0 0 0 ∷ line 2 0 0 0 0 ∷ line 1 2 0 0 0 ∷ line 4 2 0 0 0 ∷ line 2 0 0 1 0 ∷ line 2 0 1 1 0 ∷ [])) (replicate 84 0)
    (record { goal = 2; depth = 2; work_length = 1764; answer = 0; refusal = 0; work_byte = 0; work_seen = 1764; cache = bytes 84 0x000000000000000000000000000000000000000000110a0e020200010000000000000000000000000000000000000000000000000000000000000000000000000000000000000000000000000000000000000000 } ∷ []) ≡ true
unfolding counter_limit combine
book_h216_many_entries_1_1897 = refl

-- catches: 5 (extend takes the lesser kind), 7 (extend keeps the first kind), 14 (extend_with keeps the weaker flags), 16 (extend_with by an inductive step leaves the flag empty), 24 (a nested goal's paths are replaced), 25 (a nested goal's paths stay as they are), 26 (a child's nested goals are not extended by the step), 27 (a child's nested goals get the step's flag alone), 31 (lower 1 keeps the depth), 33 (lower 1 at depth 1 overflows), 35 (the depth is divided without an overflow), 37 (after an overflow the depth is divided and lowered), 41 (the root's depth is lowered), 42 (a cycle is looked for before the overflow at depth 0), 50 (the overflow mark is not handed to the parent), 51 (a finished goal does not lower its parent's reached depth), 62 (a child's nested goals are not taken over), 63 (a cycle does not insert the head into the nested goals), 65 (a goal is never among its own nested goals), 66 (a goal is among its own nested goals with the flag inductive), 68 (a provisional hit does not insert the parent's own goal), 69 (a child's nested goals do not insert the parent's own goal), 71 (a finished goal hands up its own depth, the required depth not subtracted), 73 (a cycle path leaves out the closing step), 74 (a cycle path is the closing step alone), 85 (every finished goal goes to the global cache), 86 (the global cache is never written), 92 (no entry is kept of an ambiguous result), 94 (the provisional cache is always off), 96 (an overflow does not mark the frame), 97 (an overflow does not insert the frame's goal), 98 (an overflow inserts the goal that overflowed), 115 (unknown cycles begin with overflow, forced ones with undecided), 117 (too little depth is undecided), 119 (unknown cycles begin with No), 124 (kinds 1 and 2 are confused), 125 (lower 0 and 1 are confused), 126 (every goal is undecided), 144 (too little depth is undecided where undecided was met before), 150 (every book is turned away), 159 (depth T is refused), 170 (overflow slots stand from depth T down), 184 (L = 0 is refused), 232 (a provisional hit does not compare the path), 238 (a provisional hit does not hand on the heads), 241 (no provisional entry blocks a global one), 244 (a global entry's paths are not extended by the path on the stack), 246 (a global entry's paths leave out the step to it), 273 (L = 0 overflows at once), 286 (the run of a frame that is no head is not among the passes), 287 (the run that reaches a fixpoint is not among the passes), 294 (a result that met overflow goes to the success slot), 300 (passes stand last, after the flags), 301 (an overflow slot says no passes), 303 (passes are counted from 0), 304 (the goal's runs in all frames of the query are added), 305 (the runs of the goals called are added), 315 (with L = 0 a held slot says no passes), 318 (a slot has no byte for passes: the length is document 01's)
pub book_h241_groups_1_2566 : agrees (book (line 1 4 3 0 2 ∷ line 1 0 0 0 0 ∷ line 2 2 0 1 0 ∷ line 1 1 0 0 0 ∷ line 4 2 0 0 0 ∷ line 4 2 0 0 0 ∷ line 2 0 0 1 0 ∷ line 2 3 3 1 0 ∷ line 3 0 0 0 0 ∷ line 1 2 0 0 0 ∷ line 3 2 0 0 0 ∷ line 2 1 1 1 0 ∷ line 2 3 1 1 0 ∷ line 1 3 0 0 0 ∷ line 2 0 0 1 0 ∷ [])) (replicate 160 0)
    (record { goal = 2; depth = 3; work_length = 3008; answer = 2; refusal = 0; work_byte = 0; work_seen = 3008; cache = bytes 160 0x00000000000000000000000000000000010000020101030100000000000000000000000000000000140504140103020100000000000000000000000000000000000000000000000000000000000000000000000000000000000000000000000000000000000000000000000000000000000000000000000000000000000000000000000000000000000000000000000000000001010003010000000000000000 } ∷ []) ≡ true
unfolding counter_limit combine
book_h241_groups_1_2566 = refl

-- catches: 1 (is_single is false when all counters are zero), 5 (extend takes the lesser kind), 7 (extend keeps the first kind), 14 (extend_with keeps the weaker flags), 16 (extend_with by an inductive step leaves the flag empty), 24 (a nested goal's paths are replaced), 25 (a nested goal's paths stay as they are), 26 (a child's nested goals are not extended by the step), 30 (lower 0 lowers the depth too), 31 (lower 1 keeps the depth), 32 (lower 0 at depth 0 overflows), 33 (lower 1 at depth 1 overflows), 34 (after an overflow the depth is not divided), 35 (the depth is divided without an overflow), 36 (the division rounds up), 37 (after an overflow the depth is divided and lowered), 38 (after an overflow lower 0 divides too), 41 (the root's depth is lowered), 42 (a cycle is looked for before the overflow at depth 0), 43 (the caches are looked up before the overflow at depth 0), 50 (the overflow mark is not handed to the parent), 51 (a finished goal does not lower its parent's reached depth), 62 (a child's nested goals are not taken over), 63 (a cycle does not insert the head into the nested goals), 65 (a goal is never among its own nested goals), 66 (a goal is among its own nested goals with the flag inductive), 69 (a child's nested goals do not insert the parent's own goal), 71 (a finished goal hands up its own depth, the required depth not subtracted), 74 (a cycle path is the closing step alone), 85 (every finished goal goes to the global cache), 86 (the global cache is never written), 94 (the provisional cache is always off), 96 (an overflow does not mark the frame), 97 (an overflow does not insert the frame's goal), 98 (an overflow inserts the goal that overflowed), 107 (a pick is combined as all), 114 (inductive cycles begin with Yes, coinductive ones with No), 117 (too little depth is undecided), 124 (kinds 1 and 2 are confused), 125 (lower 0 and 1 are confused), 126 (every goal is undecided), 142 (a list that met overflow and nothing worse is undecided), 150 (every book is turned away), 159 (depth T is refused), 170 (overflow slots stand from depth T down), 184 (L = 0 is refused), 219 (a first fixpoint drops every dependent entry), 223 (entries are dropped with their highest head), 225 (rebasing checks paths without the popped head's own step), 238 (a provisional hit does not hand on the heads), 251 (a cycle counts as a usage of the closing step's kind), 262 (a first run is never a fixpoint), 264 (no usages is tested before the fixpoint), 273 (L = 0 overflows at once), 286 (the run of a frame that is no head is not among the passes), 289 (an ambiguous last run is not among the passes), 293 (an overflow slot applies above its depth too), 294 (a result that met overflow goes to the success slot), 295 (the overflow slot one depth lower is looked up), 300 (passes stand last, after the flags), 301 (an overflow slot says no passes), 303 (passes are counted from 0), 305 (the runs of the goals called are added), 315 (with L = 0 a held slot says no passes), 318 (a slot has no byte for passes: the length is document 01's)
pub book_h225_many_entries_1_1135 : agrees (book (line 1 4 3 0 2 ∷ line 1 0 0 0 0 ∷ line 5 2 0 0 0 ∷ line 2 2 0 1 0 ∷ line 2 1 0 1 0 ∷ line 1 1 0 0 0 ∷ line 3 2 0 0 0 ∷ line 2 0 2 1 0 ∷ line 2 0 0 1 0 ∷ line 1 2 0 0 0 ∷ line 3 2 0 0 0 ∷ line 2 3 0 1 0 ∷ line 2 3 2 0 0 ∷ line 1 3 0 0 0 ∷ line 2 0 0 1 0 ∷ [])) (replicate 160 0)
    (record { goal = 1; depth = 3; work_length = 3008; answer = 3; refusal = 0; work_byte = 0; work_seen = 3008; cache = bytes 160 0x0000000000000000000000000000000000000000000000000100000001000301000000000000000000000000000000000000000000000000000000000000000000000000000000000000000000000000080a0b0a01030301000000000000000000000000000000000000000000000000000000000000000000000000000000000000000000000000000000000000000000000000000000000000000000000000 } ∷ []) ≡ true
unfolding counter_limit combine
book_h225_many_entries_1_1135 = refl

-- catches: 11 (ignoring usages takes away at most 1 of each kind), 14 (extend_with keeps the weaker flags), 16 (extend_with by an inductive step leaves the flag empty), 24 (a nested goal's paths are replaced), 25 (a nested goal's paths stay as they are), 26 (a child's nested goals are not extended by the step), 31 (lower 1 keeps the depth), 33 (lower 1 at depth 1 overflows), 34 (after an overflow the depth is not divided), 35 (the depth is divided without an overflow), 37 (after an overflow the depth is divided and lowered), 39 (after an overflow the depth is lowered at least by 1), 41 (the root's depth is lowered), 50 (the overflow mark is not handed to the parent), 51 (a finished goal does not lower its parent's reached depth), 55 (candidate usages gain whole counters; panics), 56 (candidate usages leave out the heads below the frame), 57 (candidate usages leave out the frame's own usages), 59 (the frame's own usages gain whole counters), 60 (a frame named as a head without usages is no head; panics), 61 (a new head gains no usages; panics), 62 (a child's nested goals are not taken over), 63 (a cycle does not insert the head into the nested goals), 65 (a goal is never among its own nested goals), 66 (a goal is among its own nested goals with the flag inductive), 71 (a finished goal hands up its own depth, the required depth not subtracted), 75 (ignoring leaves the usages of lower heads), 76 (ignoring leaves the frame's own usages), 81 (a cycle is looked for before both caches), 84 (a goal whose heads are all unused goes to the global cache), 85 (every finished goal goes to the global cache), 86 (the global cache is never written), 91 (no entry is kept of a goal that met overflow), 92 (no entry is kept of an ambiguous result), 94 (the provisional cache is always off), 96 (an overflow does not mark the frame), 97 (an overflow does not insert the frame's goal), 98 (an overflow inserts the goal that overflowed), 100 (a pick ignores no usages), 103 (a pick ignores only candidates after the Yes), 107 (a pick is combined as all), 110 (an empty all is No), 114 (inductive cycles begin with Yes, coinductive ones with No), 117 (too little depth is undecided), 125 (lower 0 and 1 are confused), 126 (every goal is undecided), 128 (a pick does not ignore ambiguous candidates), 137 (a pick is undecided where a candidate was, in spite of a Yes), 144 (too little depth is undecided where undecided was met before), 150 (every book is turned away), 159 (depth T is refused), 170 (overflow slots stand from depth T down), 184 (L = 0 is refused), 200 (an entry that does not use the popped head gains none of its heads), 202 (heads gained unused get the popped head's usages), 203 (an entry that does not use the popped head is dropped), 223 (entries are dropped with their highest head), 234 (an entry that met overflow is never used), 235 (an entry that met overflow is not used where the lowest head is its highest), 237 (a provisional hit does not hand on the overflow mark), 273 (L = 0 overflows at once), 286 (the run of a frame that is no head is not among the passes), 287 (the run that reaches a fixpoint is not among the passes), 293 (an overflow slot applies above its depth too), 294 (a result that met overflow goes to the success slot), 300 (passes stand last, after the flags), 301 (an overflow slot says no passes), 303 (passes are counted from 0), 305 (the runs of the goals called are added), 315 (with L = 0 a held slot says no passes), 318 (a slot has no byte for passes: the length is document 01's)
pub book_h202_only_inductive_1_3306 : agrees (book (line 1 4 2 0 1 ∷ line 1 0 0 0 0 ∷ line 2 3 0 1 0 ∷ line 1 1 0 0 0 ∷ line 5 2 0 0 0 ∷ line 4 2 0 0 0 ∷ line 2 2 0 1 0 ∷ line 2 2 0 1 0 ∷ line 2 0 0 1 0 ∷ line 1 2 0 0 0 ∷ line 3 2 0 0 0 ∷ line 5 3 0 0 0 ∷ line 6 0 0 0 0 ∷ line 2 1 0 1 0 ∷ line 2 2 0 1 0 ∷ line 2 0 0 1 0 ∷ line 1 3 0 0 0 ∷ line 5 2 0 0 0 ∷ line 2 2 0 1 0 ∷ line 3 0 0 0 0 ∷ [])) (replicate 128 0)
    (record { goal = 1; depth = 2; work_length = 3008; answer = 1; refusal = 0; work_byte = 0; work_seen = 3008; cache = bytes 128 0x0000000000000000000000000000000000000000000000000000000000000000000000000000000000000000000000000000000000000000000000000000000002020302010201010000000000000000000000000000000000000000000000000000000000000000000000000000000000000001010003010000000000000000 } ∷ []) ≡ true
unfolding counter_limit combine
book_h202_only_inductive_1_3306 = refl

-- catches: 5 (extend takes the lesser kind), 7 (extend keeps the first kind), 14 (extend_with keeps the weaker flags), 15 (extend_with adds the step's flag where all paths are stronger), 16 (extend_with by an inductive step leaves the flag empty), 24 (a nested goal's paths are replaced), 25 (a nested goal's paths stay as they are), 26 (a child's nested goals are not extended by the step), 27 (a child's nested goals get the step's flag alone), 31 (lower 1 keeps the depth), 33 (lower 1 at depth 1 overflows), 34 (after an overflow the depth is not divided), 35 (the depth is divided without an overflow), 37 (after an overflow the depth is divided and lowered), 39 (after an overflow the depth is lowered at least by 1), 41 (the root's depth is lowered), 42 (a cycle is looked for before the overflow at depth 0), 50 (the overflow mark is not handed to the parent), 51 (a finished goal does not lower its parent's reached depth), 62 (a child's nested goals are not taken over), 63 (a cycle does not insert the head into the nested goals), 65 (a goal is never among its own nested goals), 66 (a goal is among its own nested goals with the flag inductive), 69 (a child's nested goals do not insert the parent's own goal), 71 (a finished goal hands up its own depth, the required depth not subtracted), 74 (a cycle path is the closing step alone), 85 (every finished goal goes to the global cache), 86 (the global cache is never written), 88 (an entry's path leaves out the goal's own step), 89 (a new entry replaces the goal's older ones), 90 (the last matching entry wins), 91 (no entry is kept of a goal that met overflow), 92 (no entry is kept of an ambiguous result), 96 (an overflow does not mark the frame), 97 (an overflow does not insert the frame's goal), 98 (an overflow inserts the goal that overflowed), 114 (inductive cycles begin with Yes, coinductive ones with No), 117 (too little depth is undecided), 124 (kinds 1 and 2 are confused), 125 (lower 0 and 1 are confused), 126 (every goal is undecided), 142 (a list that met overflow and nothing worse is undecided), 150 (every book is turned away), 159 (depth T is refused), 170 (overflow slots stand from depth T down), 184 (L = 0 is refused), 234 (an entry that met overflow is never used), 235 (an entry that met overflow is not used where the lowest head is its highest), 273 (L = 0 overflows at once), 286 (the run of a frame that is no head is not among the passes), 289 (an ambiguous last run is not among the passes), 293 (an overflow slot applies above its depth too), 294 (a result that met overflow goes to the success slot), 295 (the overflow slot one depth lower is looked up), 300 (passes stand last, after the flags), 301 (an overflow slot says no passes), 303 (passes are counted from 0), 305 (the runs of the goals called are added), 315 (with L = 0 a held slot says no passes), 318 (a slot has no byte for passes: the length is document 01's)
pub book_h90_knots_1_3337 : agrees (book (line 1 4 2 0 1 ∷ line 1 0 0 0 0 ∷ line 5 2 0 0 0 ∷ line 2 1 0 1 0 ∷ line 2 1 0 1 0 ∷ line 1 1 0 0 0 ∷ line 3 3 0 0 0 ∷ line 2 3 2 1 0 ∷ line 5 2 0 0 0 ∷ line 2 3 2 1 0 ∷ line 2 2 2 1 0 ∷ line 2 3 2 1 0 ∷ line 1 2 0 0 0 ∷ line 2 0 0 1 0 ∷ line 1 3 0 0 0 ∷ line 3 2 0 0 0 ∷ line 2 0 0 1 0 ∷ line 2 2 0 1 0 ∷ [])) (replicate 128 0)
    (record { goal = 0; depth = 2; work_length = 3008; answer = 3; refusal = 0; work_byte = 0; work_seen = 3008; cache = bytes 128 0x0000000000000000000000000000000001000000010003010000000000000000000000000000000000000000000000000001000001000301000000000000000000000000000000000000000000000000000000000000000000000000000000000808020901020301000000000000000000000000000000000000000000000000 } ∷ []) ≡ true
unfolding counter_limit combine
book_h90_knots_1_3337 = refl

-- catches: 5 (extend takes the lesser kind), 7 (extend keeps the first kind), 10 (is_single is always true), 14 (extend_with keeps the weaker flags), 16 (extend_with by an inductive step leaves the flag empty), 24 (a nested goal's paths are replaced), 25 (a nested goal's paths stay as they are), 26 (a child's nested goals are not extended by the step), 27 (a child's nested goals get the step's flag alone), 30 (lower 0 lowers the depth too), 31 (lower 1 keeps the depth), 33 (lower 1 at depth 1 overflows), 34 (after an overflow the depth is not divided), 35 (the depth is divided without an overflow), 37 (after an overflow the depth is divided and lowered), 39 (after an overflow the depth is lowered at least by 1), 41 (the root's depth is lowered), 42 (a cycle is looked for before the overflow at depth 0), 50 (the overflow mark is not handed to the parent), 51 (a finished goal does not lower its parent's reached depth), 54 (a cycle does not lower its parent's reached depth), 55 (candidate usages gain whole counters), 61 (a new head gains no usages), 62 (a child's nested goals are not taken over), 63 (a cycle does not insert the head into the nested goals), 64 (a cycle inserts the head with the flag empty), 65 (a goal is never among its own nested goals), 66 (a goal is among its own nested goals with the flag inductive), 69 (a child's nested goals do not insert the parent's own goal), 71 (a finished goal hands up its own depth, the required depth not subtracted), 73 (a cycle path leaves out the closing step), 74 (a cycle path is the closing step alone), 81 (a cycle is looked for before both caches), 85 (every finished goal goes to the global cache), 86 (the global cache is never written), 89 (a new entry replaces the goal's older ones), 92 (no entry is kept of an ambiguous result), 94 (the provisional cache is always off), 96 (an overflow does not mark the frame), 97 (an overflow does not insert the frame's goal), 98 (an overflow inserts the goal that overflowed), 101 (a pick ignores the first Yes's usages too), 104 (a pick ignores all usages without a Yes too), 109 (any does not stop at a Yes), 110 (an empty all is No), 114 (inductive cycles begin with Yes, coinductive ones with No), 115 (unknown cycles begin with overflow, forced ones with undecided), 117 (too little depth is undecided), 118 (the step limit is undecided), 120 (undecided and overflow are one kind of ambiguity), 122 (overflow is not ambiguous), 125 (lower 0 and 1 are confused), 126 (every goal is undecided), 142 (a list that met overflow and nothing worse is undecided), 150 (every book is turned away), 159 (depth T is refused), 165 (a slot may not hold result 3), 166 (a success slot may not require depth T), 169 (the flag forced is ill-formed), 170 (overflow slots stand from depth T down), 184 (L = 0 is refused), 213 (ambiguity drops every dependent entry), 220 (an entry's path is not carried on to the new highest head), 223 (entries are dropped with their highest head), 226 (an entry's path is carried on without the popped head's own step), 232 (a provisional hit does not compare the path), 238 (a provisional hit does not hand on the heads), 239 (a provisional hit hands on the heads without usages), 241 (no provisional entry blocks a global one), 245 (a global entry is blocked only if all its paths match), 258 (at the step limit the last run is not among the passes), 259 (at the step limit one pass more is counted), 260 (a first fixpoint needs no single kind of usages), 272 (L = 0 means no limit), 273 (L = 0 overflows at once), 274 (at the step limit the last result is claimed), 275 (the result of the first run is claimed), 276 (the step limit marks the frame as met by overflow), 277 (at the step limit entries that are undecided are kept, not those that overflowed), 278 (at the step limit every dependent entry is dropped), 286 (the run of a frame that is no head is not among the passes), 293 (an overflow slot applies above its depth too), 294 (a result that met overflow goes to the success slot), 295 (the overflow slot one depth lower is looked up), 300 (passes stand last, after the flags), 301 (an overflow slot says no passes), 303 (passes are counted from 0), 305 (the runs of the goals called are added), 315 (with L = 0 a held slot says no passes), 318 (a slot has no byte for passes: the length is document 01's), 319 (a held slot says at most L passes, with L = 0 too)
pub book_h241_no_coinductive_1_2409 : agrees (book (line 1 3 2 0 1 ∷ line 1 0 0 0 0 ∷ line 4 2 0 0 0 ∷ line 2 2 0 1 0 ∷ line 2 1 0 1 0 ∷ line 1 1 0 0 0 ∷ line 5 2 0 0 0 ∷ line 3 2 0 0 0 ∷ line 2 2 3 1 0 ∷ line 2 0 0 1 0 ∷ line 2 2 0 0 0 ∷ line 1 2 0 0 0 ∷ line 4 2 0 0 0 ∷ line 5 2 0 0 0 ∷ line 2 0 3 1 0 ∷ line 2 0 0 0 0 ∷ line 3 0 0 0 0 ∷ [])) (replicate 84 0)
    (record { goal = 0; depth = 2; work_length = 1764; answer = 3; refusal = 0; work_byte = 0; work_seen = 1764; cache = bytes 84 0x000000000000000000000000000000000000000000000000000000000000000000000000000000000000000000000000000000000000000000000000000000000000000000000000000000000002001301020301 } ∷ record { goal = 1; depth = 2; work_length = 1764; answer = 3; refusal = 0; work_byte = 0; work_seen = 8; cache = bytes 84 0x000000000000000000000000000000000000000000000000000000001211120102030100000000000000000000000000000000000000000000000000000000000000000000000000010100030102001301020301 } ∷ []) ≡ true
unfolding counter_limit combine
book_h241_no_coinductive_1_2409 = refl

-- catches: 10 (is_single is always true), 14 (extend_with keeps the weaker flags), 16 (extend_with by an inductive step leaves the flag empty), 20 (a known head gains no usages; panics), 23 (a new head gains at most 1 of each kind), 24 (a nested goal's paths are replaced), 25 (a nested goal's paths stay as they are), 26 (a child's nested goals are not extended by the step), 30 (lower 0 lowers the depth too), 31 (lower 1 keeps the depth), 32 (lower 0 at depth 0 overflows), 33 (lower 1 at depth 1 overflows), 35 (the depth is divided without an overflow), 41 (the root's depth is lowered), 42 (a cycle is looked for before the overflow at depth 0), 50 (the overflow mark is not handed to the parent), 51 (a finished goal does not lower its parent's reached depth), 55 (candidate usages gain whole counters; panics), 61 (a new head gains no usages; panics), 62 (a child's nested goals are not taken over), 63 (a cycle does not insert the head into the nested goals), 65 (a goal is never among its own nested goals), 66 (a goal is among its own nested goals with the flag inductive), 71 (a finished goal hands up its own depth, the required depth not subtracted), 84 (a goal whose heads are all unused goes to the global cache), 85 (every finished goal goes to the global cache), 86 (the global cache is never written), 96 (an overflow does not mark the frame), 101 (a pick ignores the first Yes's usages too), 104 (a pick ignores all usages without a Yes too), 107 (a pick is combined as all), 110 (an empty all is No), 125 (lower 0 and 1 are confused), 126 (every goal is undecided), 150 (every book is turned away), 159 (depth T is refused), 170 (overflow slots stand from depth T down), 238 (a provisional hit does not hand on the heads), 239 (a provisional hit hands on the heads without usages), 260 (a first fixpoint needs no single kind of usages), 263 (the overflow of earlier runs is forgotten), 271 (L - 1 runs are allowed), 275 (the result of the first run is claimed), 279 (a rerun forgets the nested goals), 280 (a rerun forgets the depth reached), 283 (a rerun is no head until it is used; panics), 287 (the run that reaches a fixpoint is not among the passes), 294 (a result that met overflow goes to the success slot), 298 (dropped entries count on for refusal 10), 300 (passes stand last, after the flags), 301 (an overflow slot says no passes), 302 (an overflow slot always says one pass), 303 (passes are counted from 0), 305 (the runs of the goals called are added), 306 (every rerun starts the count anew), 318 (a slot has no byte for passes: the length is document 01's)
pub book_h283_picks_1_2872 : agrees (book (line 1 4 3 2 1 ∷ line 1 0 0 0 0 ∷ line 5 2 0 0 0 ∷ line 2 2 0 1 0 ∷ line 3 0 0 0 0 ∷ line 1 1 0 0 0 ∷ line 5 2 0 0 0 ∷ line 4 2 0 0 0 ∷ line 2 2 0 1 0 ∷ line 2 0 0 1 0 ∷ line 2 3 0 0 0 ∷ line 1 2 0 0 0 ∷ line 5 2 0 0 0 ∷ line 2 1 0 1 0 ∷ line 2 1 0 1 0 ∷ line 1 3 0 0 0 ∷ line 5 2 0 0 0 ∷ line 2 0 0 1 0 ∷ line 2 2 0 0 0 ∷ [])) (replicate 160 0)
    (record { goal = 3; depth = 3; work_length = 3008; answer = 1; refusal = 0; work_byte = 0; work_seen = 3008; cache = bytes 160 0x03020202020301010000000000000000000000000000000000000000000000000000000000000000000000000000000000000000000000000000000000000000000000000000000000000000000000000000000000000000000000000000000000000000000000000000000000000000000000000000000000000000000000000000000000000000000000000000000000000000000000000000000000000000 } ∷ []) ≡ true
unfolding counter_limit combine
book_h283_picks_1_2872 = refl

-- catches: 2 (a rerun forgets the heads), 5 (extend takes the lesser kind), 7 (extend keeps the first kind), 10 (is_single is always true), 14 (extend_with keeps the weaker flags), 24 (a nested goal's paths are replaced), 25 (a nested goal's paths stay as they are), 26 (a child's nested goals are not extended by the step), 30 (lower 0 lowers the depth too), 31 (lower 1 keeps the depth), 33 (lower 1 at depth 1 overflows), 35 (the depth is divided without an overflow), 41 (the root's depth is lowered), 51 (a finished goal does not lower its parent's reached depth), 58 (paths to heads are not extended by the step), 62 (a child's nested goals are not taken over), 63 (a cycle does not insert the head into the nested goals), 65 (a goal is never among its own nested goals), 66 (a goal is among its own nested goals with the flag inductive), 69 (a child's nested goals do not insert the parent's own goal), 71 (a finished goal hands up its own depth, the required depth not subtracted), 74 (a cycle path is the closing step alone), 85 (every finished goal goes to the global cache), 86 (the global cache is never written), 88 (an entry's path leaves out the goal's own step), 94 (the provisional cache is always off), 104 (a pick ignores all usages without a Yes too), 111 (an empty any is Yes), 114 (inductive cycles begin with Yes, coinductive ones with No), 125 (lower 0 and 1 are confused), 126 (every goal is undecided), 130 (all is undecided where an earlier part was, in spite of a No), 150 (every book is turned away), 159 (depth T is refused), 216 (a later fixpoint drops dependent entries), 217 (a later fixpoint keeps entries as a first one does), 221 (an entry's path becomes that of the popped head), 222 (an entry's path is carried on to the lowest head), 223 (entries are dropped with their highest head), 238 (a provisional hit does not hand on the heads), 251 (a cycle counts as a usage of the closing step's kind), 260 (a first fixpoint needs no single kind of usages), 271 (L - 1 runs are allowed), 275 (the result of the first run is claimed), 279 (a rerun forgets the nested goals), 287 (the run that reaches a fixpoint is not among the passes), 298 (dropped entries count on for refusal 10), 300 (passes stand last, after the flags), 303 (passes are counted from 0), 305 (the runs of the goals called are added), 306 (every rerun starts the count anew), 318 (a slot has no byte for passes: the length is document 01's)
pub book_h222_tangled_1_1994 : agrees (book (line 1 4 3 2 1 ∷ line 1 0 0 0 0 ∷ line 2 2 3 1 0 ∷ line 1 1 0 0 0 ∷ line 3 2 0 0 0 ∷ line 2 2 0 1 0 ∷ line 2 3 0 0 0 ∷ line 1 2 0 0 0 ∷ line 5 2 0 0 0 ∷ line 2 3 0 0 0 ∷ line 2 3 2 1 0 ∷ line 1 3 0 0 0 ∷ line 3 2 0 0 0 ∷ line 3 2 0 0 0 ∷ line 2 1 2 1 0 ∷ line 2 0 0 1 0 ∷ line 4 0 0 0 0 ∷ [])) (replicate 160 0)
    (record { goal = 0; depth = 3; work_length = 3008; answer = 0; refusal = 0; work_byte = 0; work_seen = 3008; cache = bytes 160 0x00000000000000000000000000000000000000000000000000000000000000000000000000000000000000000000000000000000000000000000000000000000000000000000000000000000000000000000000000000000000000000000000000000000000000000000000000000000000000000000000000000000000000000000000000000000000000000000000000000000000000001010101102030001 } ∷ []) ≡ true
unfolding counter_limit combine
book_h222_tangled_1_1994 = refl

-- catches: 40 (root depth 0 overflows), 41 (the root's depth is lowered), 46 (a success slot applies at any depth; panics), 86 (the global cache is never written), 111 (an empty any is Yes), 150 (every book is turned away), 154 (refusal 11 leaves the cache), 166 (a success slot may not require depth T), 184 (L = 0 is refused), 297 (a slot with a different result is replaced, without refusal 11), 300 (passes stand last, after the flags), 303 (passes are counted from 0), 315 (with L = 0 a held slot says no passes), 318 (a slot has no byte for passes: the length is document 01's), 319 (a held slot says at most L passes, with L = 0 too)
pub book_h154_examples_1_43 : agrees (book (line 1 1 1 0 1 ∷ line 1 0 0 0 0 ∷ line 4 0 0 0 0 ∷ [])) (bytes 15 0x000000000000000000000001010101)
    (record { goal = 0; depth = 0; work_length = 260; answer = 0; refusal = 11; work_byte = 0; work_seen = 260; cache = bytes 15 0x000000000000000000000000000000 } ∷ []) ≡ true
unfolding counter_limit combine
book_h154_examples_1_43 = refl

-- catches: 5 (extend takes the lesser kind), 7 (extend keeps the first kind), 13 (merging usages replaces those merged before), 14 (extend_with keeps the weaker flags), 16 (extend_with by an inductive step leaves the flag empty), 24 (a nested goal's paths are replaced), 25 (a nested goal's paths stay as they are), 26 (a child's nested goals are not extended by the step), 31 (lower 1 keeps the depth), 33 (lower 1 at depth 1 overflows), 35 (the depth is divided without an overflow), 41 (the root's depth is lowered), 51 (a finished goal does not lower its parent's reached depth), 54 (a cycle does not lower its parent's reached depth), 57 (candidate usages leave out the frame's own usages), 62 (a child's nested goals are not taken over), 63 (a cycle does not insert the head into the nested goals), 65 (a goal is never among its own nested goals), 66 (a goal is among its own nested goals with the flag inductive), 69 (a child's nested goals do not insert the parent's own goal), 71 (a finished goal hands up its own depth, the required depth not subtracted), 73 (a cycle path leaves out the closing step), 74 (a cycle path is the closing step alone), 76 (ignoring leaves the frame's own usages), 85 (every finished goal goes to the global cache), 86 (the global cache is never written), 88 (an entry's path leaves out the goal's own step), 100 (a pick ignores no usages), 102 (a pick ignores only candidates before the Yes), 103 (a pick ignores only candidates after the Yes), 106 (a pick stops at a Yes), 107 (a pick is combined as all), 114 (inductive cycles begin with Yes, coinductive ones with No), 125 (lower 0 and 1 are confused), 126 (every goal is undecided), 128 (a pick does not ignore ambiguous candidates), 137 (a pick is undecided where a candidate was, in spite of a Yes), 150 (every book is turned away), 151 (2 G - 1 entries may live), 159 (depth T is refused), 184 (L = 0 is refused), 232 (a provisional hit does not compare the path), 251 (a cycle counts as a usage of the closing step's kind), 262 (a first run is never a fixpoint), 273 (L = 0 overflows at once), 287 (the run that reaches a fixpoint is not among the passes), 300 (passes stand last, after the flags), 303 (passes are counted from 0), 305 (the runs of the goals called are added), 315 (with L = 0 a held slot says no passes), 318 (a slot has no byte for passes: the length is document 01's)
pub book_h151_many_entries_1_186 : agrees (book (line 1 2 2 0 1 ∷ line 1 0 0 0 0 ∷ line 5 4 0 0 0 ∷ line 2 1 1 1 0 ∷ line 2 1 0 0 0 ∷ line 2 1 2 1 0 ∷ line 2 1 3 1 0 ∷ line 1 1 0 0 0 ∷ line 2 0 0 1 0 ∷ [])) (replicate 48 0)
    (record { goal = 0; depth = 2; work_length = 848; answer = 1; refusal = 0; work_byte = 0; work_seen = 848; cache = bytes 48 0x0000000000000000000000000000000000000000000000000000000000000000000000000000000000001e1f01020101 } ∷ []) ≡ true
unfolding counter_limit combine
book_h151_many_entries_1_186 = refl

-- catches: 5 (extend takes the lesser kind), 7 (extend keeps the first kind), 9 (is_single asks whether the kind is used, whatever else is), 10 (is_single is always true), 14 (extend_with keeps the weaker flags), 16 (extend_with by an inductive step leaves the flag empty), 24 (a nested goal's paths are replaced), 25 (a nested goal's paths stay as they are), 26 (a child's nested goals are not extended by the step), 31 (lower 1 keeps the depth), 33 (lower 1 at depth 1 overflows), 35 (the depth is divided without an overflow), 41 (the root's depth is lowered), 51 (a finished goal does not lower its parent's reached depth), 54 (a cycle does not lower its parent's reached depth), 61 (a new head gains no usages), 62 (a child's nested goals are not taken over), 63 (a cycle does not insert the head into the nested goals), 65 (a goal is never among its own nested goals), 66 (a goal is among its own nested goals with the flag inductive), 69 (a child's nested goals do not insert the parent's own goal), 71 (a finished goal hands up its own depth, the required depth not subtracted), 74 (a cycle path is the closing step alone), 85 (every finished goal goes to the global cache), 86 (the global cache is never written), 95 (switched off, the provisional cache is still filled), 118 (the step limit is undecided), 125 (lower 0 and 1 are confused), 126 (every goal is undecided), 150 (every book is turned away), 159 (depth T is refused), 184 (L = 0 is refused), 251 (a cycle counts as a usage of the closing step's kind), 258 (at the step limit the last run is not among the passes), 259 (at the step limit one pass more is counted), 260 (a first fixpoint needs no single kind of usages), 272 (L = 0 means no limit), 273 (L = 0 overflows at once), 274 (at the step limit the last result is claimed), 275 (the result of the first run is claimed), 276 (the step limit marks the frame as met by overflow), 300 (passes stand last, after the flags), 303 (passes are counted from 0), 305 (the runs of the goals called are added), 315 (with L = 0 a held slot says no passes), 318 (a slot has no byte for passes: the length is document 01's)
pub book_h95_nested_1_64 : agrees (book (line 0 3 3 0 1 ∷ line 1 0 0 0 0 ∷ line 2 1 0 1 0 ∷ line 1 1 0 0 0 ∷ line 3 2 0 0 0 ∷ line 2 0 3 1 0 ∷ line 4 2 0 0 0 ∷ line 2 2 0 1 0 ∷ line 2 2 0 1 0 ∷ line 1 2 0 0 0 ∷ line 4 2 0 0 0 ∷ line 2 0 0 1 0 ∷ line 2 0 0 1 0 ∷ [])) (replicate 105 0)
    (record { goal = 1; depth = 3; work_length = 1764; answer = 3; refusal = 0; work_byte = 0; work_seen = 1764; cache = bytes 105 0x000000000000000000000000000000000000000000000000000000000000000000000000000000000000000000000000000000000000000000000000000000021312010303010000000000000000000000000000000000000000000000000000000000000000000000 } ∷ []) ≡ true
unfolding counter_limit combine
book_h95_nested_1_64 = refl

-- catches: 5 (extend takes the lesser kind), 7 (extend keeps the first kind), 30 (lower 0 lowers the depth too), 31 (lower 1 keeps the depth), 32 (lower 0 at depth 0 overflows), 33 (lower 1 at depth 1 overflows), 35 (the depth is divided without an overflow), 40 (root depth 0 overflows), 41 (the root's depth is lowered), 50 (the overflow mark is not handed to the parent), 73 (a cycle path leaves out the closing step), 74 (a cycle path is the closing step alone), 85 (every finished goal goes to the global cache), 86 (the global cache is never written), 89 (a new entry replaces the goal's older ones), 91 (no entry is kept of a goal that met overflow), 92 (no entry is kept of an ambiguous result), 94 (the provisional cache is always off), 96 (an overflow does not mark the frame), 97 (an overflow does not insert the frame's goal), 98 (an overflow inserts the goal that overflowed), 106 (a pick stops at a Yes), 108 (all does not stop at a No), 114 (inductive cycles begin with Yes, coinductive ones with No), 117 (too little depth is undecided), 125 (lower 0 and 1 are confused), 126 (every goal is undecided), 150 (every book is turned away), 152 (2 G + 1 entries may live), 153 (refusal 10 leaves the cache), 159 (depth T is refused), 165 (a slot may not hold result 3), 170 (overflow slots stand from depth T down), 184 (L = 0 is refused), 232 (a provisional hit does not compare the path), 233 (an entry that met overflow is always used), 247 (a global hit does not hand on the overflow mark), 273 (L = 0 overflows at once), 286 (the run of a frame that is no head is not among the passes), 293 (an overflow slot applies above its depth too), 294 (a result that met overflow goes to the success slot), 295 (the overflow slot one depth lower is looked up), 300 (passes stand last, after the flags), 301 (an overflow slot says no passes), 303 (passes are counted from 0), 315 (with L = 0 a held slot says no passes), 318 (a slot has no byte for passes: the length is document 01's), 319 (a held slot says at most L passes, with L = 0 too)
pub book_h153_many_entries_1_255 : agrees (book (line 1 3 1 0 1 ∷ line 1 0 0 0 0 ∷ line 5 5 0 0 0 ∷ line 2 1 0 1 0 ∷ line 2 1 2 0 0 ∷ line 2 1 3 1 0 ∷ line 2 1 3 0 0 ∷ line 2 2 0 0 0 ∷ line 1 1 0 0 0 ∷ line 3 2 0 0 0 ∷ line 2 0 0 0 0 ∷ line 2 2 0 0 0 ∷ line 1 2 0 0 0 ∷ line 2 0 0 1 0 ∷ [])) (replicate 63 0)
    (record { goal = 2; depth = 0; work_length = 1764; answer = 3; refusal = 0; work_byte = 0; work_seen = 1764; cache = bytes 63 0x000000000000000100000100030100000000000000000000000000000000000000000000000000000000000000000000000000000000000000000000000000 } ∷ record { goal = 0; depth = 1; work_length = 1764; answer = 0; refusal = 10; work_byte = 0; work_seen = 8; cache = bytes 63 0x000000000000000000000000000000000000000000000000000000000000000000000000000000000000000000000000000000000000000000000000000000 } ∷ []) ≡ true
unfolding counter_limit combine
book_h153_many_entries_1_255 = refl

-- catches: 150 (every book is turned away), 162 (refusal 7 comes before 5), 184 (L = 0 is refused)
pub book_h162_bad_query_1_40 : agrees (book (line 1 1 0 0 1 ∷ line 1 0 0 0 0 ∷ line 4 0 0 0 0 ∷ [])) (replicate 9 0)
    (record { goal = 65536; depth = 0; work_length = 260; answer = 0; refusal = 5; work_byte = 7; work_seen = 260; cache = bytes 9 0x000000000000000000 } ∷ []) ≡ true
unfolding counter_limit combine
book_h162_bad_query_1_40 = refl

-- catches: 176 (a call's last field is free)
pub book_h176_damaged_book_1_1127 : agrees (book (line 0 1 1 2 4 ∷ line 1 0 0 0 0 ∷ line 2 0 3 0 1 ∷ [])) (replicate 15 0)
    (record { goal = 0; depth = 1; work_length = 260; answer = 0; refusal = 4; work_byte = 7; work_seen = 260; cache = bytes 15 0x000000000000000000000000000000 } ∷ []) ≡ true
unfolding counter_limit combine
book_h176_damaged_book_1_1127 = refl

-- catches: 178 (kind 4 is accepted)
pub book_h178_damaged_book_1_3173 : agrees (book (line 1 1 0 3 2 ∷ line 1 0 0 0 0 ∷ line 2 0 4 1 0 ∷ [])) (replicate 10 0)
    (record { goal = 0; depth = 0; work_length = 260; answer = 0; refusal = 4; work_byte = 7; work_seen = 260; cache = bytes 10 0x00000000000000000000 } ∷ []) ≡ true
unfolding counter_limit combine
book_h178_damaged_book_1_3173 = refl

-- catches: 177 (lines may follow the last part)
pub book_h177_damaged_book_1_2247 : agrees (book (line 1 1 1 2 2 ∷ line 1 0 0 0 0 ∷ line 2 0 1 1 0 ∷ line 2 0 1 1 0 ∷ [])) (replicate 15 0)
    (record { goal = 0; depth = 1; work_length = 260; answer = 0; refusal = 4; work_byte = 7; work_seen = 260; cache = bytes 15 0x000000000000000000000000000000 } ∷ []) ≡ true
unfolding counter_limit combine
book_h177_damaged_book_1_2247 = refl

-- catches: 150 (every book is turned away), 181 (a blank field is 0)
pub book_h181_damaged_book_1_817 : agrees (bytes 48 0x0a3020202020203120203020203220200a3020203020203020203020203120200a312020342020322020312020312020) (replicate 20 0)
    (record { goal = 0; depth = 2; work_length = 260; answer = 0; refusal = 2; work_byte = 7; work_seen = 260; cache = bytes 20 0x0000000000000000000000000000000000000000 } ∷ []) ≡ true
unfolding counter_limit combine
book_h181_damaged_book_1_817 = refl

-- catches: 190 (a call of goal G is accepted; panics)
pub book_h190_damaged_book_1_127 : agrees (book (line 1 1 3 3 99 ∷ line 1 0 0 0 0 ∷ line 2 1 2 1 0 ∷ [])) (replicate 25 0)
    (record { goal = 0; depth = 3; work_length = 260; answer = 0; refusal = 4; work_byte = 7; work_seen = 260; cache = bytes 25 0x00000000000000000000000000000000000000000000000000 } ∷ []) ≡ true
unfolding counter_limit combine
book_h190_damaged_book_1_127 = refl

-- catches: 150 (every book is turned away), 155 (a cache with more slots is accepted), 159 (depth T is refused), 163 (refusal 9 comes before 7), 184 (L = 0 is refused)
pub book_h155_bad_query_1_895 : agrees (book (line 1 1 0 0 1 ∷ line 1 0 0 0 0 ∷ line 4 0 0 0 0 ∷ [])) (replicate 60 0)
    (record { goal = 0; depth = 0; work_length = 35; answer = 0; refusal = 7; work_byte = 7; work_seen = 35; cache = bytes 60 0x000000000000000000000000000000000000000000000000000000000000000000000000000000000000000000000000000000000000000000000000 } ∷ []) ≡ true
unfolding counter_limit combine
book_h155_bad_query_1_895 = refl

-- catches: 189 (a goal line's number is free)
pub book_h189_damaged_book_1_256 : agrees (book (line 1 1 2 8 4 ∷ line 1 0 0 60 0 ∷ line 3 3 0 0 0 ∷ line 2 0 0 0 0 ∷ line 2 0 0 1 0 ∷ line 2 0 0 1 0 ∷ [])) (replicate 20 0)
    (record { goal = 0; depth = 1; work_length = 260; answer = 0; refusal = 4; work_byte = 7; work_seen = 260; cache = bytes 20 0x0000000000000000000000000000000000000000 } ∷ []) ≡ true
unfolding counter_limit combine
book_h189_damaged_book_1_256 = refl

-- catches: 174 (a pick may stand in a pick; panics), 175 (a pick may stand in a pick below an all or any; panics)
pub book_h174_damaged_book_1_15 : agrees (book (line 1 1 6 3 4 ∷ line 1 0 0 0 0 ∷ line 5 2 0 0 0 ∷ line 3 0 0 0 0 ∷ line 4 1 0 0 0 ∷ line 4 1 0 0 0 ∷ line 5 1 0 0 0 ∷ line 2 0 0 1 0 ∷ [])) (replicate 40 0)
    (record { goal = 0; depth = 1; work_length = 260; answer = 0; refusal = 4; work_byte = 7; work_seen = 260; cache = bytes 40 0x00000000000000000000000000000000000000000000000000000000000000000000000000000000 } ∷ []) ≡ true
unfolding counter_limit combine
book_h174_damaged_book_1_15 = refl

-- catches: 150 (every book is turned away), 185 (V = 0 is accepted)
pub book_h185_damaged_book_1_1806 : agrees (book (line 1 4 0 1 0 ∷ line 3 3 0 0 0 ∷ line 2 1 1 1 0 ∷ line 2 0 1 1 0 ∷ line 2 1 1 1 0 ∷ line 1 1 0 0 0 ∷ line 3 1 0 0 0 ∷ line 2 0 1 1 0 ∷ [])) (replicate 36 0)
    (record { goal = 0; depth = 1; work_length = 848; answer = 0; refusal = 3; work_byte = 7; work_seen = 848; cache = bytes 36 0x000000000000000000000000000000000000000000000000000000000000000000000000 } ∷ []) ≡ true
unfolding counter_limit combine
book_h185_damaged_book_1_1806 = refl

-- catches: 173 (parts nest up to 9 deep)
pub book_h173_damaged_book_1_158 : agrees (book (line 1 2 2 1 1 ∷ line 1 0 0 0 0 ∷ line 3 1 0 0 0 ∷ line 3 1 0 0 0 ∷ line 3 1 0 0 0 ∷ line 3 1 0 0 0 ∷ line 3 1 0 0 0 ∷ line 3 1 0 0 0 ∷ line 3 1 0 0 0 ∷ line 3 1 0 0 0 ∷ line 6 0 0 0 0 ∷ line 1 1 0 0 0 ∷ line 2 1 2 1 0 ∷ [])) (replicate 48 0)
    (record { goal = 0; depth = 0; work_length = 848; answer = 0; refusal = 4; work_byte = 7; work_seen = 848; cache = bytes 48 0x000000000000000000000000000000000000000000000000000000000000000000000000000000000000000000000000 } ∷ []) ≡ true
unfolding counter_limit combine
book_h173_damaged_book_1_158 = refl

-- catches: 179 (lower 2 is accepted)
pub book_h179_damaged_book_1_3941 : agrees (book (line 1 2 6 5 2 ∷ line 1 0 0 0 0 ∷ line 5 4 0 0 0 ∷ line 2 0 3 2 0 ∷ line 4 0 0 0 0 ∷ line 3 1 0 0 0 ∷ line 2 0 0 1 0 ∷ line 4 1 0 0 0 ∷ line 2 0 0 1 0 ∷ line 1 1 0 0 0 ∷ line 2 0 3 1 0 ∷ [])) (replicate 96 0)
    (record { goal = 1; depth = 1; work_length = 848; answer = 0; refusal = 4; work_byte = 7; work_seen = 848; cache = bytes 96 0x000000000000000000000000000000000000000000000000000000000000000000000000000000000000000000000000000000000000000000000000000000000000000000000000000000000000000000000000000000000000000000000000 } ∷ []) ≡ true
unfolding counter_limit combine
book_h179_damaged_book_1_3941 = refl

-- catches: 150 (every book is turned away), 180 (leading zeros are accepted), 186 (the header is tested before the other lines)
pub book_h180_damaged_book_1_93 : agrees (bytes 272 0x0a3020203120203020203020203220200a3020203120203020203120203220200a3020203120203020203320203130200a3020203020203020203320203520200a3020203020203020203120203320200a3020203020203020203320203120200a3020203120203020203220203220200a3220203020203020203020203120200a3020203020203020203120203320200a3020203020203020203220203120200a3020203020203020203020203620200a3020203020203020203120203120200a3020203020203020203020203420200a3020203120203020203320203220200a3020203020203020203220203520200a3020203020203020203020203120200a302020302020302020312020332020) (replicate 64 0)
    (record { goal = 0; depth = 0; work_length = 3008; answer = 0; refusal = 2; work_byte = 7; work_seen = 3008; cache = bytes 64 0x00000000000000000000000000000000000000000000000000000000000000000000000000000000000000000000000000000000000000000000000000000000 } ∷ []) ≡ true
unfolding counter_limit combine
book_h180_damaged_book_1_93 = refl

-- catches: 150 (every book is turned away), 157 (refusals 5 to 9 zero the cache), 171 (a slot may begin with any byte), 184 (L = 0 is refused), 318 (a slot has no byte for passes: the length is document 01's)
pub book_h171_damaged_cache_1_67 : agrees (book (line 1 1 1 0 1 ∷ line 1 0 0 0 0 ∷ line 4 0 0 0 0 ∷ [])) (bytes 15 0x00000000d200000000000000000000)
    (record { goal = 0; depth = 0; work_length = 260; answer = 0; refusal = 8; work_byte = 7; work_seen = 260; cache = bytes 15 0x00000000d200000000000000000000 } ∷ []) ≡ true
unfolding counter_limit combine
book_h171_damaged_cache_1_67 = refl

-- catches: 150 (every book is turned away), 157 (refusals 5 to 9 zero the cache), 159 (depth T is refused), 184 (L = 0 is refused), 301 (an overflow slot says no passes), 303 (passes are counted from 0), 313 (a held slot may say no passes), 315 (with L = 0 a held slot says no passes), 318 (a slot has no byte for passes: the length is document 01's)
pub book_h313_damaged_cache_1_31 : agrees (book (line 1 1 0 0 1 ∷ line 1 0 0 0 0 ∷ line 4 0 0 0 0 ∷ [])) (bytes 10 0x00000000010000000000)
    (record { goal = 0; depth = 0; work_length = 260; answer = 0; refusal = 8; work_byte = 7; work_seen = 260; cache = bytes 10 0x00000000010000000000 } ∷ []) ≡ true
unfolding counter_limit combine
book_h313_damaged_cache_1_31 = refl

-- catches: 150 (every book is turned away), 157 (refusals 5 to 9 zero the cache), 159 (depth T is refused), 164 (a vacant slot may hold bytes), 184 (L = 0 is refused), 317 (a vacant slot may say passes), 318 (a slot has no byte for passes: the length is document 01's)
pub book_h317_damaged_cache_1_249 : agrees (book (line 1 1 0 0 1 ∷ line 1 0 0 0 0 ∷ line 4 0 0 0 0 ∷ [])) (bytes 10 0x00000000000031000000)
    (record { goal = 0; depth = 0; work_length = 260; answer = 0; refusal = 8; work_byte = 7; work_seen = 260; cache = bytes 10 0x00000000000031000000 } ∷ []) ≡ true
unfolding counter_limit combine
book_h317_damaged_cache_1_249 = refl

-- catches: 150 (every book is turned away), 157 (refusals 5 to 9 zero the cache), 168 (an overflow slot may require any depth), 184 (L = 0 is refused), 318 (a slot has no byte for passes: the length is document 01's)
pub book_h168_damaged_cache_1_68 : agrees (book (line 1 1 1 0 1 ∷ line 1 0 0 0 0 ∷ line 4 0 0 0 0 ∷ [])) (bytes 15 0x000100000100000000000000000000)
    (record { goal = 0; depth = 0; work_length = 260; answer = 0; refusal = 8; work_byte = 7; work_seen = 260; cache = bytes 15 0x000100000100000000000000000000 } ∷ []) ≡ true
unfolding counter_limit combine
book_h168_damaged_cache_1_68 = refl

-- catches: 150 (every book is turned away), 157 (refusals 5 to 9 zero the cache), 159 (depth T is refused), 184 (L = 0 is refused), 314 (a held slot may say one pass more than L), 316 (a held slot may say up to 99 passes, whatever L is), 318 (a slot has no byte for passes: the length is document 01's)
pub book_h316_damaged_cache_1_278 : agrees (book (line 1 1 0 0 1 ∷ line 1 0 0 0 0 ∷ line 4 0 0 0 0 ∷ [])) (bytes 10 0x00020000010000000000)
    (record { goal = 0; depth = 0; work_length = 260; answer = 0; refusal = 8; work_byte = 7; work_seen = 260; cache = bytes 10 0x00020000010000000000 } ∷ []) ≡ true
unfolding counter_limit combine
book_h316_damaged_cache_1_278 = refl

-- catches: 150 (every book is turned away), 157 (refusals 5 to 9 zero the cache), 159 (depth T is refused), 167 (a success slot may require depth T + 1), 184 (L = 0 is refused), 318 (a slot has no byte for passes: the length is document 01's)
pub book_h167_damaged_cache_1_2298 : agrees (book (line 1 1 0 0 2 ∷ line 1 0 0 0 0 ∷ line 4 0 0 0 0 ∷ [])) (bytes 10 0x00000000000001010001)
    (record { goal = 0; depth = 0; work_length = 260; answer = 0; refusal = 8; work_byte = 7; work_seen = 260; cache = bytes 10 0x00000000000001010001 } ∷ []) ≡ true
unfolding counter_limit combine
book_h167_damaged_cache_1_2298 = refl

-- catches: 40 (root depth 0 overflows), 41 (the root's depth is lowered), 46 (a success slot applies at any depth; panics), 86 (the global cache is never written), 111 (an empty any is Yes), 126 (every goal is undecided), 150 (every book is turned away), 166 (a success slot may not require depth T), 286 (the run of a frame that is no head is not among the passes), 291 (a second insert of a success keeps the old entry), 300 (passes stand last, after the flags), 303 (passes are counted from 0), 307 (an equal result keeps the old passes), 308 (an equal result keeps the higher passes), 310 (an equal result adds its passes to the old ones), 312 (an equal result with other passes is refusal 11), 318 (a slot has no byte for passes: the length is document 01's)
pub book_h307_refusals_race_1_13 : agrees (book (line 1 1 1 2 1 ∷ line 1 0 0 0 0 ∷ line 4 0 0 0 0 ∷ [])) (bytes 15 0x000000000000000000000002010001)
    (record { goal = 0; depth = 0; work_length = 260; answer = 0; refusal = 0; work_byte = 0; work_seen = 260; cache = bytes 15 0x000000000000000000000001000001 } ∷ []) ≡ true
unfolding counter_limit combine
book_h307_refusals_race_1_13 = refl

-- catches: 44 (a success slot applies only above its required depth), 150 (every book is turned away), 159 (depth T is refused), 165 (a slot may not hold result 3), 166 (a success slot may not require depth T), 184 (L = 0 is refused), 290 (the overflow slot is looked up before the success slot), 300 (passes stand last, after the flags), 301 (an overflow slot says no passes), 303 (passes are counted from 0), 311 (a hit counts as one pass more), 315 (with L = 0 a held slot says no passes), 318 (a slot has no byte for passes: the length is document 01's), 319 (a held slot says at most L passes, with L = 0 too)
pub book_h290_made_cache_1_37 : agrees (book (line 1 1 0 0 1 ∷ line 1 0 0 0 0 ∷ line 4 0 0 0 0 ∷ [])) (bytes 10 0x00010000010001000301)
    (record { goal = 0; depth = 0; work_length = 260; answer = 3; refusal = 0; work_byte = 0; work_seen = 260; cache = bytes 10 0x00010000010001000301 } ∷ []) ≡ true
unfolding counter_limit combine
book_h290_made_cache_1_37 = refl

-- catches: 40 (root depth 0 overflows), 41 (the root's depth is lowered), 46 (a success slot applies at any depth; panics), 150 (every book is turned away), 166 (a success slot may not require depth T), 170 (overflow slots stand from depth T down), 184 (L = 0 is refused), 296 (a held success slot hides the overflow slots), 300 (passes stand last, after the flags), 301 (an overflow slot says no passes), 303 (passes are counted from 0), 311 (a hit counts as one pass more), 315 (with L = 0 a held slot says no passes), 318 (a slot has no byte for passes: the length is document 01's), 319 (a held slot says at most L passes, with L = 0 too)
pub book_h296_made_cache_1_5 : agrees (book (line 1 1 1 0 1 ∷ line 1 0 0 0 0 ∷ line 4 0 0 0 0 ∷ [])) (bytes 15 0x000000000000010000010001010001)
    (record { goal = 0; depth = 0; work_length = 260; answer = 0; refusal = 0; work_byte = 0; work_seen = 260; cache = bytes 15 0x000000000000010000010001010001 } ∷ []) ≡ true
unfolding counter_limit combine
book_h296_made_cache_1_5 = refl

-- catches: 14 (extend_with keeps the weaker flags), 16 (extend_with by an inductive step leaves the flag empty), 24 (a nested goal's paths are replaced), 25 (a nested goal's paths stay as they are), 26 (a child's nested goals are not extended by the step), 30 (lower 0 lowers the depth too), 32 (lower 0 at depth 0 overflows), 40 (root depth 0 overflows), 41 (the root's depth is lowered), 44 (a success slot applies only above its required depth), 62 (a child's nested goals are not taken over), 63 (a cycle does not insert the head into the nested goals), 65 (a goal is never among its own nested goals), 66 (a goal is among its own nested goals with the flag inductive), 69 (a child's nested goals do not insert the parent's own goal), 73 (a cycle path leaves out the closing step), 85 (every finished goal goes to the global cache), 86 (the global cache is never written), 114 (inductive cycles begin with Yes, coinductive ones with No), 124 (kinds 1 and 2 are confused), 125 (lower 0 and 1 are confused), 126 (every goal is undecided), 150 (every book is turned away), 159 (depth T is refused), 166 (a success slot may not require depth T), 184 (L = 0 is refused), 242 (any provisional entry of a nested goal blocks a global one), 244 (a global entry's paths are not extended by the path on the stack), 246 (a global entry's paths leave out the step to it), 248 (a global hit does not hand on the nested goals), 249 (a global entry with nested goals applies only at the root), 262 (a first run is never a fixpoint), 273 (L = 0 overflows at once), 287 (the run that reaches a fixpoint is not among the passes), 300 (passes stand last, after the flags), 303 (passes are counted from 0), 305 (the runs of the goals called are added), 311 (a hit counts as one pass more), 315 (with L = 0 a held slot says no passes), 318 (a slot has no byte for passes: the length is document 01's), 319 (a held slot says at most L passes, with L = 0 too)
pub book_h242_made_cache_1_1667 : agrees (book (line 1 3 0 0 1 ∷ line 1 0 0 0 0 ∷ line 5 2 0 0 0 ∷ line 2 2 0 0 0 ∷ line 2 1 1 0 0 ∷ line 1 1 0 0 0 ∷ line 4 0 0 0 0 ∷ line 1 2 0 0 0 ∷ line 2 0 0 0 0 ∷ [])) (bytes 42 0x000000000000000000000000000000000000000000020000010000010000000000000000000000000000)
    (record { goal = 0; depth = 0; work_length = 1764; answer = 0; refusal = 0; work_byte = 0; work_seen = 1764; cache = bytes 42 0x000000000000000000000000000000000000000000020000010000010000000000000006000301000001 } ∷ []) ≡ true
unfolding counter_limit combine
book_h242_made_cache_1_1667 = refl

-- catches: 14 (extend_with keeps the weaker flags), 16 (extend_with by an inductive step leaves the flag empty), 24 (a nested goal's paths are replaced), 25 (a nested goal's paths stay as they are), 26 (a child's nested goals are not extended by the step), 27 (a child's nested goals get the step's flag alone), 31 (lower 1 keeps the depth), 33 (lower 1 at depth 1 overflows), 35 (the depth is divided without an overflow), 41 (the root's depth is lowered), 45 (a success slot applies only at its required depth), 50 (the overflow mark is not handed to the parent), 51 (a finished goal does not lower its parent's reached depth), 52 (a global hit does not lower its parent's reached depth), 62 (a child's nested goals are not taken over), 63 (a cycle does not insert the head into the nested goals), 65 (a goal is never among its own nested goals), 66 (a goal is among its own nested goals with the flag inductive), 69 (a child's nested goals do not insert the parent's own goal), 71 (a finished goal hands up its own depth, the required depth not subtracted), 81 (a cycle is looked for before both caches), 82 (a cycle is looked for before the global cache), 85 (every finished goal goes to the global cache), 86 (the global cache is never written), 125 (lower 0 and 1 are confused), 126 (every goal is undecided), 130 (all is undecided where an earlier part was, in spite of a No), 150 (every book is turned away), 159 (depth T is refused), 169 (the flag forced is ill-formed), 170 (overflow slots stand from depth T down), 184 (L = 0 is refused), 243 (provisional entries that met overflow block a global one too), 247 (a global hit does not hand on the overflow mark), 248 (a global hit does not hand on the nested goals), 249 (a global entry with nested goals applies only at the root), 262 (a first run is never a fixpoint), 273 (L = 0 overflows at once), 287 (the run that reaches a fixpoint is not among the passes), 293 (an overflow slot applies above its depth too), 294 (a result that met overflow goes to the success slot), 295 (the overflow slot one depth lower is looked up), 300 (passes stand last, after the flags), 301 (an overflow slot says no passes), 303 (passes are counted from 0), 305 (the runs of the goals called are added), 311 (a hit counts as one pass more), 315 (with L = 0 a held slot says no passes), 318 (a slot has no byte for passes: the length is document 01's), 319 (a held slot says at most L passes, with L = 0 too)
pub book_h243_made_cache_1_2904 : agrees (book (line 1 3 2 0 1 ∷ line 1 0 0 0 0 ∷ line 4 2 0 0 0 ∷ line 2 0 0 1 0 ∷ line 2 1 0 1 0 ∷ line 1 1 0 0 0 ∷ line 3 2 0 0 0 ∷ line 2 0 0 1 0 ∷ line 2 2 0 0 0 ∷ line 1 2 0 0 0 ∷ line 4 0 0 0 0 ∷ [])) (bytes 84 0x00000000000000000000000000000000000000000000001d010000010000000000000000000000000000000000000000000000000000000000000000000000000000000000000000000100020100000000000000)
    (record { goal = 1; depth = 2; work_length = 1764; answer = 0; refusal = 0; work_byte = 0; work_seen = 1764; cache = bytes 84 0x00000000000000000000000000000000000000000000001d0100000100031e0102000100000000000000000000000000000000000000000000000000000000000000000000000000000100020100000000000000 } ∷ []) ≡ true
unfolding counter_limit combine
book_h243_made_cache_1_2904 = refl

-- catches: 10 (is_single is always true), 14 (extend_with keeps the weaker flags), 16 (extend_with by an inductive step leaves the flag empty), 24 (a nested goal's paths are replaced), 25 (a nested goal's paths stay as they are), 26 (a child's nested goals are not extended by the step), 31 (lower 1 keeps the depth), 34 (after an overflow the depth is not divided), 35 (the depth is divided without an overflow), 37 (after an overflow the depth is divided and lowered), 39 (after an overflow the depth is lowered at least by 1), 41 (the root's depth is lowered), 50 (the overflow mark is not handed to the parent), 51 (a finished goal does not lower its parent's reached depth), 52 (a global hit does not lower its parent's reached depth), 62 (a child's nested goals are not taken over), 63 (a cycle does not insert the head into the nested goals), 64 (a cycle inserts the head with the flag empty), 65 (a goal is never among its own nested goals), 66 (a goal is among its own nested goals with the flag inductive), 69 (a child's nested goals do not insert the parent's own goal), 71 (a finished goal hands up its own depth, the required depth not subtracted), 72 (a global hit hands up its own depth, the required depth not subtracted), 86 (the global cache is never written), 108 (all does not stop at a No), 111 (an empty any is Yes), 114 (inductive cycles begin with Yes, coinductive ones with No), 118 (the step limit is undecided), 125 (lower 0 and 1 are confused), 126 (every goal is undecided), 150 (every book is turned away), 159 (depth T is refused), 165 (a slot may not hold result 3), 170 (overflow slots stand from depth T down), 240 (a global entry applies with its nested goals on the stack), 247 (a global hit does not hand on the overflow mark), 250 (in a rerun a cycle gives the initial result again), 258 (at the step limit the last run is not among the passes), 259 (at the step limit one pass more is counted), 260 (a first fixpoint needs no single kind of usages), 261 (a later run can finish as a first one does), 270 (L + 1 runs are allowed), 271 (L - 1 runs are allowed), 274 (at the step limit the last result is claimed), 275 (the result of the first run is claimed), 281 (a rerun keeps the overflow mark), 286 (the run of a frame that is no head is not among the passes), 292 (a second insert of an overflow keeps the old entry), 293 (an overflow slot applies above its depth too), 294 (a result that met overflow goes to the success slot), 295 (the overflow slot one depth lower is looked up), 300 (passes stand last, after the flags), 301 (an overflow slot says no passes), 302 (an overflow slot always says one pass), 303 (passes are counted from 0), 305 (the runs of the goals called are added), 306 (every rerun starts the count anew), 307 (an equal result keeps the old passes), 309 (an equal result keeps the lower passes), 310 (an equal result adds its passes to the old ones), 311 (a hit counts as one pass more), 312 (an equal result with other passes is refusal 11), 318 (a slot has no byte for passes: the length is document 01's)
pub book_h309_reruns_1_102 : agrees (book (line 1 4 4 2 1 ∷ line 1 0 0 0 0 ∷ line 4 2 0 0 0 ∷ line 3 2 0 0 0 ∷ line 2 0 0 0 0 ∷ line 2 2 0 1 0 ∷ line 2 3 0 1 0 ∷ line 1 1 0 0 0 ∷ line 2 0 0 1 0 ∷ line 1 2 0 0 0 ∷ line 4 0 0 0 0 ∷ line 1 3 0 0 0 ∷ line 4 0 0 0 0 ∷ [])) (bytes 192 0x000000000000000000000000000000000000000001020101000000000000000000000000000000000000000000000000000000000000000000000000000000000000000001020001000000000000000000000000000000000000000000000000000000000000000000000000000000000000000000000000000000000000000000000000000000000000000000000000000000000000000000000200010303010000000000000000000000000000000000000000000000000000000000000000)
    (record { goal = 1; depth = 4; work_length = 3008; answer = 3; refusal = 0; work_byte = 0; work_seen = 3008; cache = bytes 192 0x000000000000000000000000000000000000000001020101000000000000000000000000000000000000000001000001000000000000000000000000000000000000000001020001000000000000000000000000000000000000000000000000000001020104030100000000000000000000000000000000000000000000000000000000000000000000000000000000000000000000000000000003020303010000000000000000000000000000000000000000000000000000000000000000 } ∷ []) ≡ true
unfolding counter_limit combine
book_h309_reruns_1_102 = refl

-- catches: 5 (extend takes the lesser kind), 10 (is_single is always true), 14 (extend_with keeps the weaker flags), 15 (extend_with adds the step's flag where all paths are stronger), 16 (extend_with by an inductive step leaves the flag empty), 24 (a nested goal's paths are replaced), 25 (a nested goal's paths stay as they are), 26 (a child's nested goals are not extended by the step), 27 (a child's nested goals get the step's flag alone), 30 (lower 0 lowers the depth too), 31 (lower 1 keeps the depth), 34 (after an overflow the depth is not divided), 35 (the depth is divided without an overflow), 37 (after an overflow the depth is divided and lowered), 39 (after an overflow the depth is lowered at least by 1), 41 (the root's depth is lowered), 50 (the overflow mark is not handed to the parent), 52 (a global hit does not lower its parent's reached depth), 56 (candidate usages leave out the heads below the frame), 61 (a new head gains no usages), 62 (a child's nested goals are not taken over), 63 (a cycle does not insert the head into the nested goals), 64 (a cycle inserts the head with the flag empty), 65 (a goal is never among its own nested goals), 66 (a goal is among its own nested goals with the flag inductive), 69 (a child's nested goals do not insert the parent's own goal), 72 (a global hit hands up its own depth, the required depth not subtracted), 73 (a cycle path leaves out the closing step), 75 (ignoring leaves the usages of lower heads), 84 (a goal whose heads are all unused goes to the global cache), 85 (every finished goal goes to the global cache), 86 (the global cache is never written), 100 (a pick ignores no usages), 103 (a pick ignores only candidates after the Yes), 104 (a pick ignores all usages without a Yes too), 107 (a pick is combined as all), 108 (all does not stop at a No), 114 (inductive cycles begin with Yes, coinductive ones with No), 124 (kinds 1 and 2 are confused), 125 (lower 0 and 1 are confused), 126 (every goal is undecided), 150 (every book is turned away), 159 (depth T is refused), 170 (overflow slots stand from depth T down), 247 (a global hit does not hand on the overflow mark), 250 (in a rerun a cycle gives the initial result again), 260 (a first fixpoint needs no single kind of usages), 265 (a frame without usages runs again), 271 (L - 1 runs are allowed), 275 (the result of the first run is claimed), 281 (a rerun keeps the overflow mark), 282 (a rerun keeps the usages), 288 (a last run without usages is not among the passes), 294 (a result that met overflow goes to the success slot), 295 (the overflow slot one depth lower is looked up), 300 (passes stand last, after the flags), 301 (an overflow slot says no passes), 302 (an overflow slot always says one pass), 303 (passes are counted from 0), 305 (the runs of the goals called are added), 306 (every rerun starts the count anew), 311 (a hit counts as one pass more), 318 (a slot has no byte for passes: the length is document 01's)
pub book_r265_no_cycle_usages : agrees (book (line 1 4 4 2 1 ∷ line 1 0 0 0 0 ∷ line 4 2 0 0 0 ∷ line 2 3 0 1 0 ∷ line 2 1 0 1 0 ∷ line 1 1 0 0 0 ∷ line 5 2 0 0 0 ∷ line 3 2 0 0 0 ∷ line 2 0 2 1 0 ∷ line 2 2 0 0 0 ∷ line 2 2 0 1 0 ∷ line 1 2 0 0 0 ∷ line 4 0 0 0 0 ∷ line 1 3 0 0 0 ∷ line 4 0 0 0 0 ∷ [])) (bytes 192 0x000000000000000000000000010300010000000000000000000000000000000000000000000000000000000000000000000000000104000100000000010301010000000000000000000000000000000000000000000000000000000000000000000000000000000000000000000000000000000000000000000000000000000000000000000000000000000000000000000000000000000000000000000000000000000000000000000000000000000000000000000000000000000000000000)
    (record { goal = 0; depth = 4; work_length = 3008; answer = 1; refusal = 0; work_byte = 0; work_seen = 3008; cache = bytes 192 0x000000000000000000000000010300010000000000000000000000000000000000000000000000000000000000000000000000000104000100000000010301010000000000000000000000000000000000000000000000000000000000000000000000000000000000000000000000000000000000000000000000000000000000000000000000000000000000000000000002090204010100000000000000000000000000000000000000000000000000000000000000000000000000000000 } ∷ []) ≡ true
unfolding counter_limit combine
book_r265_no_cycle_usages = refl

-- catches: 150 (every book is turned away), 187 (16,016 bytes are accepted)
pub book_r187_length_16016 : agrees (book (line 1 1 5 1 1 ∷ line 1 0 0 0 0 ∷ line 3 998 0 0 0 ∷ line 3 0 0 0 0 ∷ line 3 0 0 0 0 ∷ line 3 0 0 0 0 ∷ line 3 0 0 0 0 ∷ line 3 0 0 0 0 ∷ line 3 0 0 0 0 ∷ line 3 0 0 0 0 ∷ line 3 0 0 0 0 ∷ line 3 0 0 0 0 ∷ line 3 0 0 0 0 ∷ line 3 0 0 0 0 ∷ line 3 0 0 0 0 ∷ line 3 0 0 0 0 ∷ line 3 0 0 0 0 ∷ line 3 0 0 0 0 ∷ line 3 0 0 0 0 ∷ line 3 0 0 0 0 ∷ line 3 0 0 0 0 ∷ line 3 0 0 0 0 ∷ line 3 0 0 0 0 ∷ line 3 0 0 0 0 ∷ line 3 0 0 0 0 ∷ line 3 0 0 0 0 ∷ line 3 0 0 0 0 ∷ line 3 0 0 0 0 ∷ line 3 0 0 0 0 ∷ line 3 0 0 0 0 ∷ line 3 0 0 0 0 ∷ line 3 0 0 0 0 ∷ line 3 0 0 0 0 ∷ line 3 0 0 0 0 ∷ line 3 0 0 0 0 ∷ line 3 0 0 0 0 ∷ line 3 0 0 0 0 ∷ line 3 0 0 0 0 ∷ line 3 0 0 0 0 ∷ line 3 0 0 0 0 ∷ line 3 0 0 0 0 ∷ line 3 0 0 0 0 ∷ line 3 0 0 0 0 ∷ line 3 0 0 0 0 ∷ line 3 0 0 0 0 ∷ line 3 0 0 0 0 ∷ line 3 0 0 0 0 ∷ line 3 0 0 0 0 ∷ line 3 0 0 0 0 ∷ line 3 0 0 0 0 ∷ line 3 0 0 0 0 ∷ line 3 0 0 0 0 ∷ line 3 0 0 0 0 ∷ line 3 0 0 0 0 ∷ line 3 0 0 0 0 ∷ line 3 0 0 0 0 ∷ line 3 0 0 0 0 ∷ line 3 0 0 0 0 ∷ line 3 0 0 0 0 ∷ line 3 0 0 0 0 ∷ line 3 0 0 0 0 ∷ line 3 0 0 0 0 ∷ line 3 0 0 0 0 ∷ line 3 0 0 0 0 ∷ line 3 0 0 0 0 ∷ line 3 0 0 0 0 ∷ line 3 0 0 0 0 ∷ line 3 0 0 0 0 ∷ line 3 0 0 0 0 ∷ line 3 0 0 0 0 ∷ line 3 0 0 0 0 ∷ line 3 0 0 0 0 ∷ line 3 0 0 0 0 ∷ line 3 0 0 0 0 ∷ line 3 0 0 0 0 ∷ line 3 0 0 0 0 ∷ line 3 0 0 0 0 ∷ line 3 0 0 0 0 ∷ line 3 0 0 0 0 ∷ line 3 0 0 0 0 ∷ line 3 0 0 0 0 ∷ line 3 0 0 0 0 ∷ line 3 0 0 0 0 ∷ line 3 0 0 0 0 ∷ line 3 0 0 0 0 ∷ line 3 0 0 0 0 ∷ line 3 0 0 0 0 ∷ line 3 0 0 0 0 ∷ line 3 0 0 0 0 ∷ line 3 0 0 0 0 ∷ line 3 0 0 0 0 ∷ line 3 0 0 0 0 ∷ line 3 0 0 0 0 ∷ line 3 0 0 0 0 ∷ line 3 0 0 0 0 ∷ line 3 0 0 0 0 ∷ line 3 0 0 0 0 ∷ line 3 0 0 0 0 ∷ line 3 0 0 0 0 ∷ line 3 0 0 0 0 ∷ line 3 0 0 0 0 ∷ line 3 0 0 0 0 ∷ line 3 0 0 0 0 ∷ line 3 0 0 0 0 ∷ line 3 0 0 0 0 ∷ line 3 0 0 0 0 ∷ line 3 0 0 0 0 ∷ line 3 0 0 0 0 ∷ line 3 0 0 0 0 ∷ line 3 0 0 0 0 ∷ line 3 0 0 0 0 ∷ line 3 0 0 0 0 ∷ line 3 0 0 0 0 ∷ line 3 0 0 0 0 ∷ line 3 0 0 0 0 ∷ line 3 0 0 0 0 ∷ line 3 0 0 0 0 ∷ line 3 0 0 0 0 ∷ line 3 0 0 0 0 ∷ line 3 0 0 0 0 ∷ line 3 0 0 0 0 ∷ line 3 0 0 0 0 ∷ line 3 0 0 0 0 ∷ line 3 0 0 0 0 ∷ line 3 0 0 0 0 ∷ line 3 0 0 0 0 ∷ line 3 0 0 0 0 ∷ line 3 0 0 0 0 ∷ line 3 0 0 0 0 ∷ line 3 0 0 0 0 ∷ line 3 0 0 0 0 ∷ line 3 0 0 0 0 ∷ line 3 0 0 0 0 ∷ line 3 0 0 0 0 ∷ line 3 0 0 0 0 ∷ line 3 0 0 0 0 ∷ line 3 0 0 0 0 ∷ line 3 0 0 0 0 ∷ line 3 0 0 0 0 ∷ line 3 0 0 0 0 ∷ line 3 0 0 0 0 ∷ line 3 0 0 0 0 ∷ line 3 0 0 0 0 ∷ line 3 0 0 0 0 ∷ line 3 0 0 0 0 ∷ line 3 0 0 0 0 ∷ line 3 0 0 0 0 ∷ line 3 0 0 0 0 ∷ line 3 0 0 0 0 ∷ line 3 0 0 0 0 ∷ line 3 0 0 0 0 ∷ line 3 0 0 0 0 ∷ line 3 0 0 0 0 ∷ line 3 0 0 0 0 ∷ line 3 0 0 0 0 ∷ line 3 0 0 0 0 ∷ line 3 0 0 0 0 ∷ line 3 0 0 0 0 ∷ line 3 0 0 0 0 ∷ line 3 0 0 0 0 ∷ line 3 0 0 0 0 ∷ line 3 0 0 0 0 ∷ line 3 0 0 0 0 ∷ line 3 0 0 0 0 ∷ line 3 0 0 0 0 ∷ line 3 0 0 0 0 ∷ line 3 0 0 0 0 ∷ line 3 0 0 0 0 ∷ line 3 0 0 0 0 ∷ line 3 0 0 0 0 ∷ line 3 0 0 0 0 ∷ line 3 0 0 0 0 ∷ line 3 0 0 0 0 ∷ line 3 0 0 0 0 ∷ line 3 0 0 0 0 ∷ line 3 0 0 0 0 ∷ line 3 0 0 0 0 ∷ line 3 0 0 0 0 ∷ line 3 0 0 0 0 ∷ line 3 0 0 0 0 ∷ line 3 0 0 0 0 ∷ line 3 0 0 0 0 ∷ line 3 0 0 0 0 ∷ line 3 0 0 0 0 ∷ line 3 0 0 0 0 ∷ line 3 0 0 0 0 ∷ line 3 0 0 0 0 ∷ line 3 0 0 0 0 ∷ line 3 0 0 0 0 ∷ line 3 0 0 0 0 ∷ line 3 0 0 0 0 ∷ line 3 0 0 0 0 ∷ line 3 0 0 0 0 ∷ line 3 0 0 0 0 ∷ line 3 0 0 0 0 ∷ line 3 0 0 0 0 ∷ line 3 0 0 0 0 ∷ line 3 0 0 0 0 ∷ line 3 0 0 0 0 ∷ line 3 0 0 0 0 ∷ line 3 0 0 0 0 ∷ line 3 0 0 0 0 ∷ line 3 0 0 0 0 ∷ line 3 0 0 0 0 ∷ line 3 0 0 0 0 ∷ line 3 0 0 0 0 ∷ line 3 0 0 0 0 ∷ line 3 0 0 0 0 ∷ line 3 0 0 0 0 ∷ line 3 0 0 0 0 ∷ line 3 0 0 0 0 ∷ line 3 0 0 0 0 ∷ line 3 0 0 0 0 ∷ line 3 0 0 0 0 ∷ line 3 0 0 0 0 ∷ line 3 0 0 0 0 ∷ line 3 0 0 0 0 ∷ line 3 0 0 0 0 ∷ line 3 0 0 0 0 ∷ line 3 0 0 0 0 ∷ line 3 0 0 0 0 ∷ line 3 0 0 0 0 ∷ line 3 0 0 0 0 ∷ line 3 0 0 0 0 ∷ line 3 0 0 0 0 ∷ line 3 0 0 0 0 ∷ line 3 0 0 0 0 ∷ line 3 0 0 0 0 ∷ line 3 0 0 0 0 ∷ line 3 0 0 0 0 ∷ line 3 0 0 0 0 ∷ line 3 0 0 0 0 ∷ line 3 0 0 0 0 ∷ line 3 0 0 0 0 ∷ line 3 0 0 0 0 ∷ line 3 0 0 0 0 ∷ line 3 0 0 0 0 ∷ line 3 0 0 0 0 ∷ line 3 0 0 0 0 ∷ line 3 0 0 0 0 ∷ line 3 0 0 0 0 ∷ line 3 0 0 0 0 ∷ line 3 0 0 0 0 ∷ line 3 0 0 0 0 ∷ line 3 0 0 0 0 ∷ line 3 0 0 0 0 ∷ line 3 0 0 0 0 ∷ line 3 0 0 0 0 ∷ line 3 0 0 0 0 ∷ line 3 0 0 0 0 ∷ line 3 0 0 0 0 ∷ line 3 0 0 0 0 ∷ line 3 0 0 0 0 ∷ line 3 0 0 0 0 ∷ line 3 0 0 0 0 ∷ line 3 0 0 0 0 ∷ line 3 0 0 0 0 ∷ line 3 0 0 0 0 ∷ line 3 0 0 0 0 ∷ line 3 0 0 0 0 ∷ line 3 0 0 0 0 ∷ line 3 0 0 0 0 ∷ line 3 0 0 0 0 ∷ line 3 0 0 0 0 ∷ line 3 0 0 0 0 ∷ line 3 0 0 0 0 ∷ line 3 0 0 0 0 ∷ line 3 0 0 0 0 ∷ line 3 0 0 0 0 ∷ line 3 0 0 0 0 ∷ line 3 0 0 0 0 ∷ line 3 0 0 0 0 ∷ line 3 0 0 0 0 ∷ line 3 0 0 0 0 ∷ line 3 0 0 0 0 ∷ line 3 0 0 0 0 ∷ line 3 0 0 0 0 ∷ line 3 0 0 0 0 ∷ line 3 0 0 0 0 ∷ line 3 0 0 0 0 ∷ line 3 0 0 0 0 ∷ line 3 0 0 0 0 ∷ line 3 0 0 0 0 ∷ line 3 0 0 0 0 ∷ line 3 0 0 0 0 ∷ line 3 0 0 0 0 ∷ line 3 0 0 0 0 ∷ line 3 0 0 0 0 ∷ line 3 0 0 0 0 ∷ line 3 0 0 0 0 ∷ line 3 0 0 0 0 ∷ line 3 0 0 0 0 ∷ line 3 0 0 0 0 ∷ line 3 0 0 0 0 ∷ line 3 0 0 0 0 ∷ line 3 0 0 0 0 ∷ line 3 0 0 0 0 ∷ line 3 0 0 0 0 ∷ line 3 0 0 0 0 ∷ line 3 0 0 0 0 ∷ line 3 0 0 0 0 ∷ line 3 0 0 0 0 ∷ line 3 0 0 0 0 ∷ line 3 0 0 0 0 ∷ line 3 0 0 0 0 ∷ line 3 0 0 0 0 ∷ line 3 0 0 0 0 ∷ line 3 0 0 0 0 ∷ line 3 0 0 0 0 ∷ line 3 0 0 0 0 ∷ line 3 0 0 0 0 ∷ line 3 0 0 0 0 ∷ line 3 0 0 0 0 ∷ line 3 0 0 0 0 ∷ line 3 0 0 0 0 ∷ line 3 0 0 0 0 ∷ line 3 0 0 0 0 ∷ line 3 0 0 0 0 ∷ line 3 0 0 0 0 ∷ line 3 0 0 0 0 ∷ line 3 0 0 0 0 ∷ line 3 0 0 0 0 ∷ line 3 0 0 0 0 ∷ line 3 0 0 0 0 ∷ line 3 0 0 0 0 ∷ line 3 0 0 0 0 ∷ line 3 0 0 0 0 ∷ line 3 0 0 0 0 ∷ line 3 0 0 0 0 ∷ line 3 0 0 0 0 ∷ line 3 0 0 0 0 ∷ line 3 0 0 0 0 ∷ line 3 0 0 0 0 ∷ line 3 0 0 0 0 ∷ line 3 0 0 0 0 ∷ line 3 0 0 0 0 ∷ line 3 0 0 0 0 ∷ line 3 0 0 0 0 ∷ line 3 0 0 0 0 ∷ line 3 0 0 0 0 ∷ line 3 0 0 0 0 ∷ line 3 0 0 0 0 ∷ line 3 0 0 0 0 ∷ line 3 0 0 0 0 ∷ line 3 0 0 0 0 ∷ line 3 0 0 0 0 ∷ line 3 0 0 0 0 ∷ line 3 0 0 0 0 ∷ line 3 0 0 0 0 ∷ line 3 0 0 0 0 ∷ line 3 0 0 0 0 ∷ line 3 0 0 0 0 ∷ line 3 0 0 0 0 ∷ line 3 0 0 0 0 ∷ line 3 0 0 0 0 ∷ line 3 0 0 0 0 ∷ line 3 0 0 0 0 ∷ line 3 0 0 0 0 ∷ line 3 0 0 0 0 ∷ line 3 0 0 0 0 ∷ line 3 0 0 0 0 ∷ line 3 0 0 0 0 ∷ line 3 0 0 0 0 ∷ line 3 0 0 0 0 ∷ line 3 0 0 0 0 ∷ line 3 0 0 0 0 ∷ line 3 0 0 0 0 ∷ line 3 0 0 0 0 ∷ line 3 0 0 0 0 ∷ line 3 0 0 0 0 ∷ line 3 0 0 0 0 ∷ line 3 0 0 0 0 ∷ line 3 0 0 0 0 ∷ line 3 0 0 0 0 ∷ line 3 0 0 0 0 ∷ line 3 0 0 0 0 ∷ line 3 0 0 0 0 ∷ line 3 0 0 0 0 ∷ line 3 0 0 0 0 ∷ line 3 0 0 0 0 ∷ line 3 0 0 0 0 ∷ line 3 0 0 0 0 ∷ line 3 0 0 0 0 ∷ line 3 0 0 0 0 ∷ line 3 0 0 0 0 ∷ line 3 0 0 0 0 ∷ line 3 0 0 0 0 ∷ line 3 0 0 0 0 ∷ line 3 0 0 0 0 ∷ line 3 0 0 0 0 ∷ line 3 0 0 0 0 ∷ line 3 0 0 0 0 ∷ line 3 0 0 0 0 ∷ line 3 0 0 0 0 ∷ line 3 0 0 0 0 ∷ line 3 0 0 0 0 ∷ line 3 0 0 0 0 ∷ line 3 0 0 0 0 ∷ line 3 0 0 0 0 ∷ line 3 0 0 0 0 ∷ line 3 0 0 0 0 ∷ line 3 0 0 0 0 ∷ line 3 0 0 0 0 ∷ line 3 0 0 0 0 ∷ line 3 0 0 0 0 ∷ line 3 0 0 0 0 ∷ line 3 0 0 0 0 ∷ line 3 0 0 0 0 ∷ line 3 0 0 0 0 ∷ line 3 0 0 0 0 ∷ line 3 0 0 0 0 ∷ line 3 0 0 0 0 ∷ line 3 0 0 0 0 ∷ line 3 0 0 0 0 ∷ line 3 0 0 0 0 ∷ line 3 0 0 0 0 ∷ line 3 0 0 0 0 ∷ line 3 0 0 0 0 ∷ line 3 0 0 0 0 ∷ line 3 0 0 0 0 ∷ line 3 0 0 0 0 ∷ line 3 0 0 0 0 ∷ line 3 0 0 0 0 ∷ line 3 0 0 0 0 ∷ line 3 0 0 0 0 ∷ line 3 0 0 0 0 ∷ line 3 0 0 0 0 ∷ line 3 0 0 0 0 ∷ line 3 0 0 0 0 ∷ line 3 0 0 0 0 ∷ line 3 0 0 0 0 ∷ line 3 0 0 0 0 ∷ line 3 0 0 0 0 ∷ line 3 0 0 0 0 ∷ line 3 0 0 0 0 ∷ line 3 0 0 0 0 ∷ line 3 0 0 0 0 ∷ line 3 0 0 0 0 ∷ line 3 0 0 0 0 ∷ line 3 0 0 0 0 ∷ line 3 0 0 0 0 ∷ line 3 0 0 0 0 ∷ line 3 0 0 0 0 ∷ line 3 0 0 0 0 ∷ line 3 0 0 0 0 ∷ line 3 0 0 0 0 ∷ line 3 0 0 0 0 ∷ line 3 0 0 0 0 ∷ line 3 0 0 0 0 ∷ line 3 0 0 0 0 ∷ line 3 0 0 0 0 ∷ line 3 0 0 0 0 ∷ line 3 0 0 0 0 ∷ line 3 0 0 0 0 ∷ line 3 0 0 0 0 ∷ line 3 0 0 0 0 ∷ line 3 0 0 0 0 ∷ line 3 0 0 0 0 ∷ line 3 0 0 0 0 ∷ line 3 0 0 0 0 ∷ line 3 0 0 0 0 ∷ line 3 0 0 0 0 ∷ line 3 0 0 0 0 ∷ line 3 0 0 0 0 ∷ line 3 0 0 0 0 ∷ line 3 0 0 0 0 ∷ line 3 0 0 0 0 ∷ line 3 0 0 0 0 ∷ line 3 0 0 0 0 ∷ line 3 0 0 0 0 ∷ line 3 0 0 0 0 ∷ line 3 0 0 0 0 ∷ line 3 0 0 0 0 ∷ line 3 0 0 0 0 ∷ line 3 0 0 0 0 ∷ line 3 0 0 0 0 ∷ line 3 0 0 0 0 ∷ line 3 0 0 0 0 ∷ line 3 0 0 0 0 ∷ line 3 0 0 0 0 ∷ line 3 0 0 0 0 ∷ line 3 0 0 0 0 ∷ line 3 0 0 0 0 ∷ line 3 0 0 0 0 ∷ line 3 0 0 0 0 ∷ line 3 0 0 0 0 ∷ line 3 0 0 0 0 ∷ line 3 0 0 0 0 ∷ line 3 0 0 0 0 ∷ line 3 0 0 0 0 ∷ line 3 0 0 0 0 ∷ line 3 0 0 0 0 ∷ line 3 0 0 0 0 ∷ line 3 0 0 0 0 ∷ line 3 0 0 0 0 ∷ line 3 0 0 0 0 ∷ line 3 0 0 0 0 ∷ line 3 0 0 0 0 ∷ line 3 0 0 0 0 ∷ line 3 0 0 0 0 ∷ line 3 0 0 0 0 ∷ line 3 0 0 0 0 ∷ line 3 0 0 0 0 ∷ line 3 0 0 0 0 ∷ line 3 0 0 0 0 ∷ line 3 0 0 0 0 ∷ line 3 0 0 0 0 ∷ line 3 0 0 0 0 ∷ line 3 0 0 0 0 ∷ line 3 0 0 0 0 ∷ line 3 0 0 0 0 ∷ line 3 0 0 0 0 ∷ line 3 0 0 0 0 ∷ line 3 0 0 0 0 ∷ line 3 0 0 0 0 ∷ line 3 0 0 0 0 ∷ line 3 0 0 0 0 ∷ line 3 0 0 0 0 ∷ line 3 0 0 0 0 ∷ line 3 0 0 0 0 ∷ line 3 0 0 0 0 ∷ line 3 0 0 0 0 ∷ line 3 0 0 0 0 ∷ line 3 0 0 0 0 ∷ line 3 0 0 0 0 ∷ line 3 0 0 0 0 ∷ line 3 0 0 0 0 ∷ line 3 0 0 0 0 ∷ line 3 0 0 0 0 ∷ line 3 0 0 0 0 ∷ line 3 0 0 0 0 ∷ line 3 0 0 0 0 ∷ line 3 0 0 0 0 ∷ line 3 0 0 0 0 ∷ line 3 0 0 0 0 ∷ line 3 0 0 0 0 ∷ line 3 0 0 0 0 ∷ line 3 0 0 0 0 ∷ line 3 0 0 0 0 ∷ line 3 0 0 0 0 ∷ line 3 0 0 0 0 ∷ line 3 0 0 0 0 ∷ line 3 0 0 0 0 ∷ line 3 0 0 0 0 ∷ line 3 0 0 0 0 ∷ line 3 0 0 0 0 ∷ line 3 0 0 0 0 ∷ line 3 0 0 0 0 ∷ line 3 0 0 0 0 ∷ line 3 0 0 0 0 ∷ line 3 0 0 0 0 ∷ line 3 0 0 0 0 ∷ line 3 0 0 0 0 ∷ line 3 0 0 0 0 ∷ line 3 0 0 0 0 ∷ line 3 0 0 0 0 ∷ line 3 0 0 0 0 ∷ line 3 0 0 0 0 ∷ line 3 0 0 0 0 ∷ line 3 0 0 0 0 ∷ line 3 0 0 0 0 ∷ line 3 0 0 0 0 ∷ line 3 0 0 0 0 ∷ line 3 0 0 0 0 ∷ line 3 0 0 0 0 ∷ line 3 0 0 0 0 ∷ line 3 0 0 0 0 ∷ line 3 0 0 0 0 ∷ line 3 0 0 0 0 ∷ line 3 0 0 0 0 ∷ line 3 0 0 0 0 ∷ line 3 0 0 0 0 ∷ line 3 0 0 0 0 ∷ line 3 0 0 0 0 ∷ line 3 0 0 0 0 ∷ line 3 0 0 0 0 ∷ line 3 0 0 0 0 ∷ line 3 0 0 0 0 ∷ line 3 0 0 0 0 ∷ line 3 0 0 0 0 ∷ line 3 0 0 0 0 ∷ line 3 0 0 0 0 ∷ line 3 0 0 0 0 ∷ line 3 0 0 0 0 ∷ line 3 0 0 0 0 ∷ line 3 0 0 0 0 ∷ line 3 0 0 0 0 ∷ line 3 0 0 0 0 ∷ line 3 0 0 0 0 ∷ line 3 0 0 0 0 ∷ line 3 0 0 0 0 ∷ line 3 0 0 0 0 ∷ line 3 0 0 0 0 ∷ line 3 0 0 0 0 ∷ line 3 0 0 0 0 ∷ line 3 0 0 0 0 ∷ line 3 0 0 0 0 ∷ line 3 0 0 0 0 ∷ line 3 0 0 0 0 ∷ line 3 0 0 0 0 ∷ line 3 0 0 0 0 ∷ line 3 0 0 0 0 ∷ line 3 0 0 0 0 ∷ line 3 0 0 0 0 ∷ line 3 0 0 0 0 ∷ line 3 0 0 0 0 ∷ line 3 0 0 0 0 ∷ line 3 0 0 0 0 ∷ line 3 0 0 0 0 ∷ line 3 0 0 0 0 ∷ line 3 0 0 0 0 ∷ line 3 0 0 0 0 ∷ line 3 0 0 0 0 ∷ line 3 0 0 0 0 ∷ line 3 0 0 0 0 ∷ line 3 0 0 0 0 ∷ line 3 0 0 0 0 ∷ line 3 0 0 0 0 ∷ line 3 0 0 0 0 ∷ line 3 0 0 0 0 ∷ line 3 0 0 0 0 ∷ line 3 0 0 0 0 ∷ line 3 0 0 0 0 ∷ line 3 0 0 0 0 ∷ line 3 0 0 0 0 ∷ line 3 0 0 0 0 ∷ line 3 0 0 0 0 ∷ line 3 0 0 0 0 ∷ line 3 0 0 0 0 ∷ line 3 0 0 0 0 ∷ line 3 0 0 0 0 ∷ line 3 0 0 0 0 ∷ line 3 0 0 0 0 ∷ line 3 0 0 0 0 ∷ line 3 0 0 0 0 ∷ line 3 0 0 0 0 ∷ line 3 0 0 0 0 ∷ line 3 0 0 0 0 ∷ line 3 0 0 0 0 ∷ line 3 0 0 0 0 ∷ line 3 0 0 0 0 ∷ line 3 0 0 0 0 ∷ line 3 0 0 0 0 ∷ line 3 0 0 0 0 ∷ line 3 0 0 0 0 ∷ line 3 0 0 0 0 ∷ line 3 0 0 0 0 ∷ line 3 0 0 0 0 ∷ line 3 0 0 0 0 ∷ line 3 0 0 0 0 ∷ line 3 0 0 0 0 ∷ line 3 0 0 0 0 ∷ line 3 0 0 0 0 ∷ line 3 0 0 0 0 ∷ line 3 0 0 0 0 ∷ line 3 0 0 0 0 ∷ line 3 0 0 0 0 ∷ line 3 0 0 0 0 ∷ line 3 0 0 0 0 ∷ line 3 0 0 0 0 ∷ line 3 0 0 0 0 ∷ line 3 0 0 0 0 ∷ line 3 0 0 0 0 ∷ line 3 0 0 0 0 ∷ line 3 0 0 0 0 ∷ line 3 0 0 0 0 ∷ line 3 0 0 0 0 ∷ line 3 0 0 0 0 ∷ line 3 0 0 0 0 ∷ line 3 0 0 0 0 ∷ line 3 0 0 0 0 ∷ line 3 0 0 0 0 ∷ line 3 0 0 0 0 ∷ line 3 0 0 0 0 ∷ line 3 0 0 0 0 ∷ line 3 0 0 0 0 ∷ line 3 0 0 0 0 ∷ line 3 0 0 0 0 ∷ line 3 0 0 0 0 ∷ line 3 0 0 0 0 ∷ line 3 0 0 0 0 ∷ line 3 0 0 0 0 ∷ line 3 0 0 0 0 ∷ line 3 0 0 0 0 ∷ line 3 0 0 0 0 ∷ line 3 0 0 0 0 ∷ line 3 0 0 0 0 ∷ line 3 0 0 0 0 ∷ line 3 0 0 0 0 ∷ line 3 0 0 0 0 ∷ line 3 0 0 0 0 ∷ line 3 0 0 0 0 ∷ line 3 0 0 0 0 ∷ line 3 0 0 0 0 ∷ line 3 0 0 0 0 ∷ line 3 0 0 0 0 ∷ line 3 0 0 0 0 ∷ line 3 0 0 0 0 ∷ line 3 0 0 0 0 ∷ line 3 0 0 0 0 ∷ line 3 0 0 0 0 ∷ line 3 0 0 0 0 ∷ line 3 0 0 0 0 ∷ line 3 0 0 0 0 ∷ line 3 0 0 0 0 ∷ line 3 0 0 0 0 ∷ line 3 0 0 0 0 ∷ line 3 0 0 0 0 ∷ line 3 0 0 0 0 ∷ line 3 0 0 0 0 ∷ line 3 0 0 0 0 ∷ line 3 0 0 0 0 ∷ line 3 0 0 0 0 ∷ line 3 0 0 0 0 ∷ line 3 0 0 0 0 ∷ line 3 0 0 0 0 ∷ line 3 0 0 0 0 ∷ line 3 0 0 0 0 ∷ line 3 0 0 0 0 ∷ line 3 0 0 0 0 ∷ line 3 0 0 0 0 ∷ line 3 0 0 0 0 ∷ line 3 0 0 0 0 ∷ line 3 0 0 0 0 ∷ line 3 0 0 0 0 ∷ line 3 0 0 0 0 ∷ line 3 0 0 0 0 ∷ line 3 0 0 0 0 ∷ line 3 0 0 0 0 ∷ line 3 0 0 0 0 ∷ line 3 0 0 0 0 ∷ line 3 0 0 0 0 ∷ line 3 0 0 0 0 ∷ line 3 0 0 0 0 ∷ line 3 0 0 0 0 ∷ line 3 0 0 0 0 ∷ line 3 0 0 0 0 ∷ line 3 0 0 0 0 ∷ line 3 0 0 0 0 ∷ line 3 0 0 0 0 ∷ line 3 0 0 0 0 ∷ line 3 0 0 0 0 ∷ line 3 0 0 0 0 ∷ line 3 0 0 0 0 ∷ line 3 0 0 0 0 ∷ line 3 0 0 0 0 ∷ line 3 0 0 0 0 ∷ line 3 0 0 0 0 ∷ line 3 0 0 0 0 ∷ line 3 0 0 0 0 ∷ line 3 0 0 0 0 ∷ line 3 0 0 0 0 ∷ line 3 0 0 0 0 ∷ line 3 0 0 0 0 ∷ line 3 0 0 0 0 ∷ line 3 0 0 0 0 ∷ line 3 0 0 0 0 ∷ line 3 0 0 0 0 ∷ line 3 0 0 0 0 ∷ line 3 0 0 0 0 ∷ line 3 0 0 0 0 ∷ line 3 0 0 0 0 ∷ line 3 0 0 0 0 ∷ line 3 0 0 0 0 ∷ line 3 0 0 0 0 ∷ line 3 0 0 0 0 ∷ line 3 0 0 0 0 ∷ line 3 0 0 0 0 ∷ line 3 0 0 0 0 ∷ line 3 0 0 0 0 ∷ line 3 0 0 0 0 ∷ line 3 0 0 0 0 ∷ line 3 0 0 0 0 ∷ line 3 0 0 0 0 ∷ line 3 0 0 0 0 ∷ line 3 0 0 0 0 ∷ line 3 0 0 0 0 ∷ line 3 0 0 0 0 ∷ line 3 0 0 0 0 ∷ line 3 0 0 0 0 ∷ line 3 0 0 0 0 ∷ line 3 0 0 0 0 ∷ line 3 0 0 0 0 ∷ line 3 0 0 0 0 ∷ line 3 0 0 0 0 ∷ line 3 0 0 0 0 ∷ line 3 0 0 0 0 ∷ line 3 0 0 0 0 ∷ line 3 0 0 0 0 ∷ line 3 0 0 0 0 ∷ line 3 0 0 0 0 ∷ line 3 0 0 0 0 ∷ line 3 0 0 0 0 ∷ line 3 0 0 0 0 ∷ line 3 0 0 0 0 ∷ line 3 0 0 0 0 ∷ line 3 0 0 0 0 ∷ line 3 0 0 0 0 ∷ line 3 0 0 0 0 ∷ line 3 0 0 0 0 ∷ line 3 0 0 0 0 ∷ line 3 0 0 0 0 ∷ line 3 0 0 0 0 ∷ line 3 0 0 0 0 ∷ line 3 0 0 0 0 ∷ line 3 0 0 0 0 ∷ line 3 0 0 0 0 ∷ line 3 0 0 0 0 ∷ line 3 0 0 0 0 ∷ line 3 0 0 0 0 ∷ line 3 0 0 0 0 ∷ line 3 0 0 0 0 ∷ line 3 0 0 0 0 ∷ line 3 0 0 0 0 ∷ line 3 0 0 0 0 ∷ line 3 0 0 0 0 ∷ line 3 0 0 0 0 ∷ line 3 0 0 0 0 ∷ line 3 0 0 0 0 ∷ line 3 0 0 0 0 ∷ line 3 0 0 0 0 ∷ line 3 0 0 0 0 ∷ line 3 0 0 0 0 ∷ line 3 0 0 0 0 ∷ line 3 0 0 0 0 ∷ line 3 0 0 0 0 ∷ line 3 0 0 0 0 ∷ line 3 0 0 0 0 ∷ line 3 0 0 0 0 ∷ line 3 0 0 0 0 ∷ line 3 0 0 0 0 ∷ line 3 0 0 0 0 ∷ line 3 0 0 0 0 ∷ line 3 0 0 0 0 ∷ line 3 0 0 0 0 ∷ line 3 0 0 0 0 ∷ line 3 0 0 0 0 ∷ line 3 0 0 0 0 ∷ line 3 0 0 0 0 ∷ line 3 0 0 0 0 ∷ line 3 0 0 0 0 ∷ line 3 0 0 0 0 ∷ line 3 0 0 0 0 ∷ line 3 0 0 0 0 ∷ line 3 0 0 0 0 ∷ line 3 0 0 0 0 ∷ line 3 0 0 0 0 ∷ line 3 0 0 0 0 ∷ line 3 0 0 0 0 ∷ line 3 0 0 0 0 ∷ line 3 0 0 0 0 ∷ line 3 0 0 0 0 ∷ line 3 0 0 0 0 ∷ line 3 0 0 0 0 ∷ line 3 0 0 0 0 ∷ line 3 0 0 0 0 ∷ line 3 0 0 0 0 ∷ line 3 0 0 0 0 ∷ line 3 0 0 0 0 ∷ line 3 0 0 0 0 ∷ line 3 0 0 0 0 ∷ line 3 0 0 0 0 ∷ line 3 0 0 0 0 ∷ line 3 0 0 0 0 ∷ line 3 0 0 0 0 ∷ line 3 0 0 0 0 ∷ line 3 0 0 0 0 ∷ line 3 0 0 0 0 ∷ line 3 0 0 0 0 ∷ line 3 0 0 0 0 ∷ line 3 0 0 0 0 ∷ line 3 0 0 0 0 ∷ line 3 0 0 0 0 ∷ line 3 0 0 0 0 ∷ line 3 0 0 0 0 ∷ line 3 0 0 0 0 ∷ line 3 0 0 0 0 ∷ line 3 0 0 0 0 ∷ line 3 0 0 0 0 ∷ line 3 0 0 0 0 ∷ line 3 0 0 0 0 ∷ line 3 0 0 0 0 ∷ line 3 0 0 0 0 ∷ line 3 0 0 0 0 ∷ line 3 0 0 0 0 ∷ line 3 0 0 0 0 ∷ line 3 0 0 0 0 ∷ line 3 0 0 0 0 ∷ line 3 0 0 0 0 ∷ line 3 0 0 0 0 ∷ line 3 0 0 0 0 ∷ line 3 0 0 0 0 ∷ line 3 0 0 0 0 ∷ line 3 0 0 0 0 ∷ line 3 0 0 0 0 ∷ line 3 0 0 0 0 ∷ line 3 0 0 0 0 ∷ line 3 0 0 0 0 ∷ line 3 0 0 0 0 ∷ line 3 0 0 0 0 ∷ line 3 0 0 0 0 ∷ line 3 0 0 0 0 ∷ line 3 0 0 0 0 ∷ line 3 0 0 0 0 ∷ line 3 0 0 0 0 ∷ line 3 0 0 0 0 ∷ line 3 0 0 0 0 ∷ line 3 0 0 0 0 ∷ line 3 0 0 0 0 ∷ line 3 0 0 0 0 ∷ line 3 0 0 0 0 ∷ line 3 0 0 0 0 ∷ line 3 0 0 0 0 ∷ line 3 0 0 0 0 ∷ line 3 0 0 0 0 ∷ line 3 0 0 0 0 ∷ line 3 0 0 0 0 ∷ line 3 0 0 0 0 ∷ line 3 0 0 0 0 ∷ line 3 0 0 0 0 ∷ line 3 0 0 0 0 ∷ line 3 0 0 0 0 ∷ line 3 0 0 0 0 ∷ line 3 0 0 0 0 ∷ line 3 0 0 0 0 ∷ line 3 0 0 0 0 ∷ line 3 0 0 0 0 ∷ line 3 0 0 0 0 ∷ line 3 0 0 0 0 ∷ line 3 0 0 0 0 ∷ line 3 0 0 0 0 ∷ line 3 0 0 0 0 ∷ line 3 0 0 0 0 ∷ line 3 0 0 0 0 ∷ line 3 0 0 0 0 ∷ line 3 0 0 0 0 ∷ line 3 0 0 0 0 ∷ line 3 0 0 0 0 ∷ line 3 0 0 0 0 ∷ line 3 0 0 0 0 ∷ line 3 0 0 0 0 ∷ line 3 0 0 0 0 ∷ line 3 0 0 0 0 ∷ line 3 0 0 0 0 ∷ line 3 0 0 0 0 ∷ line 3 0 0 0 0 ∷ line 3 0 0 0 0 ∷ line 3 0 0 0 0 ∷ line 3 0 0 0 0 ∷ line 3 0 0 0 0 ∷ line 3 0 0 0 0 ∷ line 3 0 0 0 0 ∷ line 3 0 0 0 0 ∷ line 3 0 0 0 0 ∷ line 3 0 0 0 0 ∷ line 3 0 0 0 0 ∷ line 3 0 0 0 0 ∷ line 3 0 0 0 0 ∷ line 3 0 0 0 0 ∷ line 3 0 0 0 0 ∷ line 3 0 0 0 0 ∷ line 3 0 0 0 0 ∷ line 3 0 0 0 0 ∷ line 3 0 0 0 0 ∷ line 3 0 0 0 0 ∷ line 3 0 0 0 0 ∷ line 3 0 0 0 0 ∷ line 3 0 0 0 0 ∷ line 3 0 0 0 0 ∷ line 3 0 0 0 0 ∷ line 3 0 0 0 0 ∷ line 3 0 0 0 0 ∷ line 3 0 0 0 0 ∷ line 3 0 0 0 0 ∷ line 3 0 0 0 0 ∷ line 3 0 0 0 0 ∷ line 3 0 0 0 0 ∷ line 3 0 0 0 0 ∷ line 3 0 0 0 0 ∷ line 3 0 0 0 0 ∷ line 3 0 0 0 0 ∷ line 3 0 0 0 0 ∷ line 3 0 0 0 0 ∷ line 3 0 0 0 0 ∷ line 3 0 0 0 0 ∷ line 3 0 0 0 0 ∷ line 3 0 0 0 0 ∷ line 3 0 0 0 0 ∷ line 3 0 0 0 0 ∷ line 3 0 0 0 0 ∷ line 3 0 0 0 0 ∷ line 3 0 0 0 0 ∷ line 3 0 0 0 0 ∷ line 3 0 0 0 0 ∷ line 3 0 0 0 0 ∷ line 3 0 0 0 0 ∷ line 3 0 0 0 0 ∷ line 3 0 0 0 0 ∷ line 3 0 0 0 0 ∷ line 3 0 0 0 0 ∷ line 3 0 0 0 0 ∷ [])) (replicate 35 0)
    (record { goal = 0; depth = 5; work_length = 260; answer = 0; refusal = 1; work_byte = 7; work_seen = 260; cache = bytes 35 0x0000000000000000000000000000000000000000000000000000000000000000000000 } ∷ []) ≡ true
unfolding counter_limit combine
book_r187_length_16016 = refl
