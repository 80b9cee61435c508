-- A frame by value, read as the rule's. Definitions only.
use Rattle.std.specs.Prelude.{take}
use Rattle.rules.specs.Frame.{Laid}
use Rattle.frame.specs.declared.Layout.{Layout}

-- places past a list's length are passed over
abbrev pub view_layout : Layout → Laid
view_layout l =
    record {
      answer = l.answer;
      revision = l.revision;
      frame =
          record {
            panes = take l.panes.len l.panes.at;
            tab_bars = take l.tab_bars.len l.tab_bars.at;
            tabs = take l.tabs.len l.tabs.at;
            split_children = take l.split_children.len l.split_children.at;
            split_handles = take l.split_handles.len l.split_handles.at;
            focus_order = take l.focus_order.len l.focus_order.at;
            paint_order = take l.paint_order.len l.paint_order.at;
          };
    }
