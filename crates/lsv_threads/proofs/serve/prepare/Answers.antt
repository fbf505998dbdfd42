use Rattle.lsv_threads.proofs.serve.prepare.Goals as goal

pub returns : goal.returns
returns g c = record {
  inboxes_are = c.in_ok-deal.ensures.count;
  outs_are = c.in_ok-deal-2.ensures.count;
  dealt = c.in_ok-deal.ensures.rows;
  dealt_out = c.in_ok-deal-2.ensures.rows;
  lanes_untaken = c.in_ok-deal.ensures.receivers;
  untaken = c.in_ok-deal-2.ensures.receivers;
  worker_sides = (c.in_ok-with_capacity.ensures.items, c.in_ok-with_capacity.ensures.capacity);
  lane_sides = (c.in_ok-with_capacity-2.ensures.items, c.in_ok-with_capacity-2.ensures.capacity);
  workers_room = (c.in_ok-with_capacity-3.ensures.items, c.in_ok-with_capacity-3.ensures.capacity);
  worker_sides_room = (c.in_ok-with_capacity-4.ensures.items, c.in_ok-with_capacity-4.ensures.capacity);
  lanes_room = (c.in_ok-with_capacity-5.ensures.items, c.in_ok-with_capacity-5.ensures.capacity);
  lane_sides_room = (c.in_ok-with_capacity-6.ensures.items, c.in_ok-with_capacity-6.ensures.capacity);
  endpoints = (c.in_ok-with_capacity-7.ensures.items, c.in_ok-with_capacity-7.ensures.capacity);
  receivers = (c.in_ok-with_capacity-8.ensures.items, c.in_ok-with_capacity-8.ensures.capacity);
  rows = (c.in_ok-with_capacity-9.ensures.items, c.in_ok-with_capacity-9.ensures.capacity);
  stops = (c.in_ok-with_capacity-10.ensures.items, c.in_ok-with_capacity-10.ensures.capacity);
  lanes_left = (c.in_ok-with_capacity-11.ensures.items, c.in_ok-with_capacity-11.ensures.capacity);
  lane_receivers = (c.in_ok-with_capacity-12.ensures.items, c.in_ok-with_capacity-12.ensures.capacity);
  lane_rows = (c.in_ok-with_capacity-13.ensures.items, c.in_ok-with_capacity-13.ensures.capacity);
}
